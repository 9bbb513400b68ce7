use mathlib.Core.Path.{◌≡◌}
use Prim.Native.Nat.{◌<◌}
use lib.ListN.{length}
use Rattle.chart_records.specs.Chart.{Chart}
use Rattle.chart_records.specs.Tree.{under}
use Rattle.chart_tree.specs.Table.{Rooted}
use Rattle.chart_tree.proofs.table.under.Given as goal

abbrev pub invariant-loop-x : goal.invariant-loop-x
invariant-loop-x l = (c : Chart) → Rooted c l.parents → l.s < length c.states → (l.x < length c.states) × (under c l.m l.s ≡ under c l.m l.x)

abbrev pub decreases-loop-x : goal.decreases-loop-x
decreases-loop-x l = l.x
