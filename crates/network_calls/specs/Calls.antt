-- The operations of the network machine, as a script calls them.
use Rattle.console.specs.Machine.{Operations}
use Rattle.network_moves.specs.Machine.{zero_configuration, start_of, step_of, wait_of, longest_of}
use Rattle.network_moves.specs.declared.configuration.Configuration.{Configuration}

abbrev pub network : Operations Configuration
network = record { zero = zero_configuration; start = start_of; step = step_of; wait = wait_of; longest = longest_of }
