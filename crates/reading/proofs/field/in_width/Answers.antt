use mathlib.Core.Path.{sym}
use native.Mathlib.Nat.{lt_of_lt_of_le}
use lib.Pow.{pow_mono}
use borrow.Author.Tests.{lt-ltb}
use Rattle.lists.proofs.Bits.{bits_fit}
use Rattle.reading.proofs.field.in_width.Goals as goal

pub returns-then-width-lt32 : goal.returns-then-width-lt32
returns-then-width-lt32 c = bits_fit c.args.x c.args.width

pub returns-else-width-lt32 : goal.returns-else-width-lt32
returns-else-width-lt32 c = sym (lt-ltb _ _ (lt_of_lt_of_le c.ranges.x.fits (pow_mono c.if-width-lt32.false)))
