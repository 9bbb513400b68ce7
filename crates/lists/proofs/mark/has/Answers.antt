use mathlib.Core.Path.{refl, sym, ◌∙◌}
use borrow.Author.Tests.{le-ltb}
use Rattle.lists.specs.Lists.{has}
use native.Mathlib.Omega.{arith}
use Rattle.lists.proofs.Bits.{has_high}
use Rattle.lists.proofs.mark.has.Goals as goal

pub returns-then-i-lt32 : goal.returns-then-i-lt32
unfolding has
returns-then-i-lt32 c = refl

pub returns-else-i-lt32 : goal.returns-else-i-lt32
returns-else-i-lt32 c = le-ltb _ 32 c.if-i-lt32.false ∙ sym (has_high 32 c.args.marks c.args.i (omega arith) c.if-i-lt32.false)
