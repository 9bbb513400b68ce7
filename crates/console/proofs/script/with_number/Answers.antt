use borrow.Author.Tests.{lt-ltb, le-ltb}
use Rattle.console.specs.Places.{with_number}
use Rattle.console.proofs.script.with_number.Goals as goal

pub returns-then-at-ge17 : goal.returns-then-at-ge17
unfolding with_number
returns-then-at-ge17 c = rw (le-ltb _ 17 c.if-at-ge17.true)

pub returns : goal.returns
unfolding with_number
returns c = rw (lt-ltb _ 17 c.if-at-ge17.false, c.short.ensures)
