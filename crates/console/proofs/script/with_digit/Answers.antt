use borrow.Author.Tests.{lt-ltb, le-ltb}
use Rattle.console.specs.Places.{with_digit}
use Rattle.console.proofs.script.with_digit.Goals as goal

pub returns-then-value-gt4294967295 : goal.returns-then-value-gt4294967295
unfolding with_digit
returns-then-value-gt4294967295 c = rw (lt-ltb 4294967295 _ c.if-value-gt4294967295.true)

pub returns : goal.returns
unfolding with_digit
returns c = rw (le-ltb 4294967295 _ c.if-value-gt4294967295.false)
