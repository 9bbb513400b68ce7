use mathlib.Core.Path.{sym, ap, ◌∙◌}
use borrow.Author.Tests.{lt-ltb, le-ltb}
use Rattle.reading.specs.Places.{read_of}
use Rattle.reading.proofs.Places.{such_got, such_not, such_fault, handed_on}
use Rattle.reading.proofs.field.read_below.Goals as goal

pub returns-in_err-x-clause-means : goal.returns-in_err-x-clause-means
returns-in_err-x-clause-means c = ap (read_of _) (handed_on _ c.from_residual.ensures.1) ∙ sym (such_fault _ _ _ (sym c.in_err-x.ensures.means))

pub returns-then-x-limit-clause-means : goal.returns-then-x-limit-clause-means
returns-then-x-limit-clause-means c = sym (such_got _ _ _ (sym c.in_ok-x.ensures.means) (lt-ltb _ _ c.if-x-limit.true))

pub returns-else-x-limit-clause-means : goal.returns-else-x-limit-clause-means
returns-else-x-limit-clause-means c = sym (such_not _ _ _ (sym c.in_ok-x.ensures.means) (le-ltb _ _ c.if-x-limit.false))
