use mathlib.Core.Path.{ap}
use Prim.Native.Nat.{ℕ}
use lib.Dec.{eqb}
use Rattle.chart_tree.proofs.table.is_child.Goals as goal

-- src/table.rt:66:17
-- src/table.rt:66:17
-- src/table.rt:63:1
pub returns : goal.returns
returns c = ap (λ (x : ℕ). eqb x c.args.s) c.byte_at-above.ensures
