use mathlib.Core.Bool.{cond}
use mathlib.Core.List.{map}
use lib.Dec.{ltb}
use lib.ListN.{get_or}
use Rattle.lists.specs.Lists.{below}
use Rattle.lists.proofs.Loops.{Filled}
use Rattle.network_records.specs.Network.{Network, initials}
use Rattle.network_records.specs.Layout.{Located}
use Rattle.network.proofs.initial.initial_locations.Given as goal

abbrev pub invariant-loop-a : goal.invariant-loop-a
invariant-loop-a l = (n : Network) → Located l.rest l.counts n → Filled 16 (map (λ b. cond (ltb b n.automata) (get_or (initials n b) 0 0) 0) (below 16)) l.locations l.a
