use mathlib.Core.Path.{sym, ap, ◌∙◌}
use Rattle.reading.specs.Places.{read_of}
use Rattle.reading.proofs.Reading.{mapped_got, mapped_fault}
use Rattle.reading.proofs.Places.{handed_on}
use Rattle.numbers.proofs.Integers.{read_back}
use Rattle.expr.proofs.expression.read_signed.Goals as goal

pub returns-in_err-x-clause-means : goal.returns-in_err-x-clause-means
returns-in_err-x-clause-means c = ap (read_of _) (handed_on _ c.from_residual.ensures.1) ∙ sym (mapped_fault _ (sym c.in_err-x.ensures.means))

pub returns-clause-means : goal.returns-clause-means
returns-clause-means c = rw (read_back c.signed.result c.signed.type_inv, c.signed.ensures) (sym (mapped_got _ (sym c.in_ok-x.ensures.means)))
