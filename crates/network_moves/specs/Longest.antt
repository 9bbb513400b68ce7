-- What the longest wait of a network says of its waits.
use Rattle.std.specs.Prelude.{ℕ, List}
use Rattle.clocks.specs.Longest.{TellsLongest}
use Rattle.network_moves.specs.Machine.{wait_of, longest_of}
use Rattle.network_moves.specs.declared.configuration.Configuration.{Configuration}

-- of every file and configuration it tells which waits are accepted, and is refused where every wait is, with the same number
abbrev pub LongestOfNetworks : Type 0
LongestOfNetworks = (file : List ℕ) (σ : Configuration) → TellsLongest (longest_of file σ) (wait_of file σ)
