use Rattle.flatten_places.proofs.Underneath.{SeenFrom}
use Rattle.chart_tree.specs.Table.{Rooted}
use Rattle.chart_records.specs.Chart.{Chart}
use lib.ListN.{length}
use Prim.Native.Nat.{◌≤◌}
use mathlib.Core.Path.{◌≡◌}
use Rattle.flatten_places.proofs.below.gathered.Given as goal

abbrev pub invariant-loop-s : goal.invariant-loop-s
invariant-loop-s l = (length l.below ≡ 48) × (l.states ≤ 48) × ((c : Chart) → Rooted c l.parents → l.states ≡ length c.states → SeenFrom c l.initial.below l.below l.s)
