use mathlib.Core.Path.{sym, ◌∙◌}
use native.Mathlib.Omega.{arith}
use Rattle.reading.proofs.Places.{such_got, such_not, such_fault, read_err}
use Rattle.lists.proofs.Bits.{subset_width}
use Rattle.network_records.proofs.edge.read_values.Goals as goal

pub returns-in_err-x : goal.returns-in_err-x
returns-in_err-x c = read_err _ _ _ c.from_residual.ensures.1 (such_fault _ _ _ (sym c.in_err-x.ensures.means))

pub returns-then-subset : goal.returns-then-subset
returns-then-subset c = sym (such_got _ _ _ (sym c.in_ok-x.ensures.means) (subset_width 8 32 c.in_ok-x.x _ (omega arith) (omega arith) ∙ sym c.subset.ensures ∙ c.if-subset.true))

pub returns-else-subset : goal.returns-else-subset
returns-else-subset c = sym (such_not _ _ _ (sym c.in_ok-x.ensures.means) (subset_width 8 32 c.in_ok-x.x _ (omega arith) (omega arith) ∙ sym c.subset.ensures ∙ c.if-subset.false))
