use borrow.Author.Tests.{eq-eqb, ne_eqb}
use Rattle.steps.specs.Cases.{signals_on}
use Rattle.steps.proofs.step.signals_on.Goals as goal

pub returns-then-m-signal : goal.returns-then-m-signal
unfolding signals_on
returns-then-m-signal c = rw (eq-eqb _ _ c.if-m-signal.true)

pub returns-else-m-signal : goal.returns-else-m-signal
unfolding signals_on
returns-else-m-signal c = rw (ne_eqb _ _ c.if-m-signal.false)
