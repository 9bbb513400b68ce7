use mathlib.Core.Path.{sym, ap, ◌∙◌}
use Rattle.reading.specs.Places.{read_of}
use Rattle.lists.proofs.Bools.{cond_yes}
use Rattle.reading.proofs.Reading.{mapped_got, mapped_fault}
use Rattle.reading.proofs.Places.{handed_on}
use Rattle.expr.proofs.Expressions.{divisor_in}
use Rattle.expr.proofs.expression.divide_by.Goals as goal

pub returns-in_err-d-clause-means : goal.returns-in_err-d-clause-means
returns-in_err-d-clause-means c = ap (read_of _) (handed_on _ c.from_residual.ensures.1) ∙ sym (mapped_fault _ (sym c.in_err-d.ensures.means))

pub returns-clause-means : goal.returns-clause-means
returns-clause-means c = rw (c.divide.ensures ∙ cond_yes _ _ (divisor_in _ (sym c.in_ok-d.ensures.means))) (sym (mapped_got _ (sym c.in_ok-d.ensures.means)))
