use mathlib.Core.Path.{◌≡◌}
use Prim.Native.Nat.{◌≤◌}
use lib.ListN.{length}
use Rattle.chart_records.specs.Chart.{Chart}
use Rattle.chart_tree.specs.Table.{Column, Rooted}
use Rattle.flattening.specs.Flatten.{own}
use Rattle.flatten_tables.specs.Bounding.{RowsOf, above_of}
use Rattle.flatten_tables.proofs.Bounding.{RowsTo}
use Rattle.flatten_tables.proofs.bound.bounds_above.Given as goal

abbrev pub invariant-loop-s : goal.invariant-loop-s
invariant-loop-s l = (1 ≤ l.s) × (length l.table ≡ 48) × ((c : Chart) → Rooted c l.parents → Column (λ x. x.kind) c l.kinds → RowsOf (own c) c l.rows → RowsTo l.s (above_of c) (length c.states) l.table)
