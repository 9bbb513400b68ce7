use borrow.Author.Tests.{eq-eqb, ne_eqb}
use Rattle.steps.specs.Cases.{one_sender}
use Rattle.steps.proofs.step.one_sender.Goals as goal

pub returns-then-count_senders-eq1 : goal.returns-then-count_senders-eq1
unfolding one_sender
returns-then-count_senders-eq1 c = rw (← c.count_senders.ensures, eq-eqb _ 1 c.if-count_senders-eq1.true) c.all_take_part.ensures

pub returns-else-count_senders-eq1 : goal.returns-else-count_senders-eq1
unfolding one_sender
returns-else-count_senders-eq1 c = rw (← c.count_senders.ensures, ne_eqb _ 1 c.if-count_senders-eq1.false)
