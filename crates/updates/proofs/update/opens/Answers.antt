use borrow.Author.Tests.{lt-ltb, le-ltb}
use Rattle.updates.specs.Update.{opens}
use Rattle.updates.proofs.update.opens.Goals as goal

pub returns-then-first-variables : goal.returns-then-first-variables
unfolding opens
returns-then-first-variables c = rw (lt-ltb c.args.first c.args.variables c.if-first-variables.true)

pub returns : goal.returns
unfolding opens
returns c = rw (le-ltb c.args.first c.args.variables c.if-first-variables.false, c.has_advances.ensures)
