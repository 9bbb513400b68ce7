use mathlib.Core.Path.{◌≡◌}
use lib.Dec.{eqb}
use lib.ListN.{drop}
use Rattle.lists.specs.Lists.{all}
use Rattle.network_records.specs.Network.{Network, location_at, owner_of}
use Rattle.network_records.specs.Layout.{Laid}
use Rattle.network.proofs.laid.all_join.Given as goal

abbrev pub invariant-loop-i : goal.invariant-loop-i
invariant-loop-i l = (n : Network) → Laid l.rest l.counts l.offsets n → all (λ e. eqb (owner_of n e) (location_at n e.target).automaton) n.edges ≡ all (λ e. eqb (owner_of n e) (location_at n e.target).automaton) (drop l.i n.edges)
