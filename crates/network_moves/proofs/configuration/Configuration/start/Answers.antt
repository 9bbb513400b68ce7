use Rattle.network_moves.specs.Machine.{start}
use Rattle.network_moves.proofs.configuration.Configuration.start.Goals as goal

pub returns : goal.returns
unfolding start
returns c = λ n L j. record { locations = c.initial_locations.ensures n L j; flags = (c.zero.ensures j).flags; variables = (c.zero.ensures j).variables; clocks = (c.zero.ensures j).clocks }
