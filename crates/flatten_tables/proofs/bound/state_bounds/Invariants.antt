use mathlib.Core.Path.{◌≡◌}
use Prim.Native.Nat.{◌≤◌}
use lib.ListN.{length}
use Rattle.chart_records.specs.Chart.{Chart}
use Rattle.chart_records.specs.Layout.{Stated}
use Rattle.flatten_tables.specs.Bounding.{bounds_at}
use Rattle.flatten_tables.proofs.Bounding.{RowsTo}
use Rattle.flatten_tables.proofs.bound.state_bounds.Given as goal

abbrev pub invariant-loop-s : goal.invariant-loop-s
invariant-loop-s l = (l.s ≤ 48) × (length l.table ≡ 48) × ((c : Chart) → Stated l.rest l.counts c → RowsTo l.s (bounds_at c) (length c.states) l.table)
