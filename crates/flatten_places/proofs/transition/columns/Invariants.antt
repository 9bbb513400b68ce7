use mathlib.Core.Path.{◌≡◌}
use Prim.Native.Nat.{◌≤◌}
use lib.ListN.{length}
use Rattle.chart_records.specs.Chart.{Chart}
use Rattle.chart_records.specs.Laid.{Laid}
use Rattle.chart_records.specs.declared.header.Counts.{Counts}
use Rattle.flatten_places.proofs.Filling.{ColumnedTo}
use Rattle.flatten_places.proofs.transition.columns.Given as goal

abbrev pub invariant-loop-t : goal.invariant-loop-t
invariant-loop-t l = ((l.t ≤ l.count) × (l.count ≤ 64)) × (length l.sources ≡ 64) × (length l.destinations ≡ 64) × (length l.exits ≡ 64) × (length l.entries ≡ 64) × ((k : Chart) (n : Counts) → Laid l.rest n l.offsets k → l.t ≤ n.transitions → ColumnedTo k l.sources l.destinations l.exits l.entries l.t)
