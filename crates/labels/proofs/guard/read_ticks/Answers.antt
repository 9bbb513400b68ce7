use mathlib.Core.Path.{sym}
use borrow.Author.Tests.{lt-ltb, le-ltb}
use Rattle.labels.specs.Guard.{ticks}
use Rattle.reading.proofs.Places.{such_got, such_not, such_fault, read_err}
use Rattle.labels.proofs.guard.read_ticks.Goals as goal

pub returns-in_err-n : goal.returns-in_err-n
unfolding ticks
returns-in_err-n c = read_err _ _ _ c.from_residual.ensures.1 (such_fault _ _ _ (sym c.in_err-n.ensures.means))

pub returns-then-n-lt2147483648 : goal.returns-then-n-lt2147483648
unfolding ticks
returns-then-n-lt2147483648 c = sym (such_got _ _ _ (sym c.in_ok-n.ensures.means) (lt-ltb _ _ c.if-n-lt2147483648.true))

pub returns-else-n-lt2147483648 : goal.returns-else-n-lt2147483648
unfolding ticks
returns-else-n-lt2147483648 c = sym (such_not _ _ _ (sym c.in_ok-n.ensures.means) (le-ltb _ _ c.if-n-lt2147483648.false))
