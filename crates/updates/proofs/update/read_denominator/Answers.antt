use mathlib.Core.Path.{sym}
use borrow.Author.Tests.{le-leb, lt-leb}
use Rattle.reading.proofs.Places.{such_got, such_not, such_fault, read_err}
use Rattle.updates.proofs.update.read_denominator.Goals as goal

pub returns-in_err-q : goal.returns-in_err-q
returns-in_err-q c = read_err _ _ _ c.from_residual.ensures.1 (such_fault _ _ _ (sym c.in_err-q.ensures.means))

pub returns-then-q-ge1 : goal.returns-then-q-ge1
returns-then-q-ge1 c = sym (such_got _ _ _ (sym c.in_ok-q.ensures.means) (le-leb 1 _ c.if-q-ge1.true))

pub returns-else-q-ge1 : goal.returns-else-q-ge1
returns-else-q-ge1 c = sym (such_not _ _ _ (sym c.in_ok-q.ensures.means) (lt-leb 1 _ c.if-q-ge1.false))
