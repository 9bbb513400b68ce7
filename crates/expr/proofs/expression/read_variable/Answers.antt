use mathlib.Core.Path.{sym, ap, ◌∙◌}
use Rattle.reading.specs.Reading.{skipped}
use Rattle.reading.specs.Places.{reached}
use Rattle.reading.proofs.Reading.{mapped_got, mapped_fault}
use Rattle.reading.proofs.Places.{handed_on}
use Rattle.expr.proofs.expression.read_variable.Goals as goal

pub returns-in_err-next-clause-means : goal.returns-in_err-next-clause-means
unfolding skipped
returns-in_err-next-clause-means c = ap (reached _ tt) (handed_on _ c.from_residual.ensures.1) ∙ sym (mapped_fault _ (sym c.in_err-next.ensures.means))

pub returns-clause-means : goal.returns-clause-means
unfolding skipped
returns-clause-means c = sym (mapped_got _ (sym c.in_ok-next.ensures.means))
