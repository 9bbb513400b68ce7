use Rattle.flatten_places.specs.Tables.{ColumnOf}
use Rattle.flatten_edges.proofs.Departs.{comes_from, Kept}
use Rattle.chart_records.specs.Chart.{Chart}
use lib.ListN.{length}
use Prim.Native.Nat.{◌≤◌}
use mathlib.Core.Path.{◌≡◌}
use Rattle.flatten_edges.proofs.source.transitions_from.Given as goal

abbrev pub invariant-loop-t : goal.invariant-loop-t
invariant-loop-t l = (length l.items ≡ 64) × (l.n ≤ l.t) × (l.t ≤ l.count) × (l.count ≤ 64) × ((c : Chart) → ColumnOf (λ u. u.source) c l.sources → l.count ≡ length c.transitions → Kept (comes_from c l.s) (length c.transitions) l.items l.n l.t)
