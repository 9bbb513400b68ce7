use mathlib.Core.Path.{◌≡◌}
use mathlib.Core.Bool.{Bool, false}
use Prim.Native.Nat.{ℕ, ◌≤◌}
use lib.ListN.{length, replicate}
use Rattle.chart_records.specs.Chart.{Chart}
use Rattle.chart_tree.specs.Table.{adding}
use Rattle.flattening.specs.Flatten.{joined}
use Rattle.flatten_tables.specs.Bounding.{RowsOf}
use Rattle.flatten_tables.proofs.Bounding.{joins}
use Rattle.flatten_tables.proofs.bound.pre_bounds.Given as goal

abbrev pub invariant-loop-k : goal.invariant-loop-k
invariant-loop-k l = (c : Chart) (f : ℕ → Bool) → length c.states ≤ 48 → RowsOf (joined c) c l.rows → l.set ≡ adding 48 c f (replicate 48 false) → l.row ≡ joins c f l.k
