use mathlib.Core.Path.{◌≡◌}
use mathlib.Core.Bool.{◌&&◌}
use lib.Dec.{eqb}
use lib.ListN.{length, drop}
use Rattle.lists.specs.Lists.{below, keep}
use Rattle.network_records.specs.Network.{Network, location_at, initials}
use Rattle.network_records.specs.Layout.{Located}
use Rattle.network.proofs.initial.initial_of.Given as goal

abbrev pub invariant-loop-i : goal.invariant-loop-i
invariant-loop-i l = (n : Network) → Located l.rest l.counts n → initials n l.automaton ≡ keep (λ j. eqb (location_at n j).automaton l.automaton && eqb (location_at n j).initial 1) (drop l.i (below (length n.locations)))
