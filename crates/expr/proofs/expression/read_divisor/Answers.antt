use mathlib.Core.Path.{sym, ap, ◌∙◌}
use Rattle.expr.specs.Expression.{divisor}
use Rattle.reading.specs.Places.{onward, read_of}
use Rattle.reading.proofs.Places.{such_got, such_not, such_fault, handed_on}
use Rattle.expr.proofs.expression.read_divisor.Goals as goal

pub returns-in_err-d-clause-means : goal.returns-in_err-d-clause-means
unfolding divisor onward
returns-in_err-d-clause-means c = ap (read_of _) (handed_on _ c.from_residual.ensures.1) ∙ sym (such_fault _ _ _ (sym c.in_err-d.ensures.means))

pub returns-then-is_divisor-clause-means : goal.returns-then-is_divisor-clause-means
unfolding divisor onward
returns-then-is_divisor-clause-means c = sym (such_got _ _ _ (sym c.in_ok-d.ensures.means) (sym c.is_divisor.ensures ∙ c.if-is_divisor.true))

pub returns-else-is_divisor-clause-means : goal.returns-else-is_divisor-clause-means
unfolding divisor onward
returns-else-is_divisor-clause-means c = sym (such_not _ _ _ (sym c.in_ok-d.ensures.means) (sym c.is_divisor.ensures ∙ c.if-is_divisor.false))
