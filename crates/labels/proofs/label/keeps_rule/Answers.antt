use borrow.Author.Tests.{eq-eqb, ne_eqb}
use Rattle.labels.proofs.label.keeps_rule.Goals as goal

pub returns-then-updates-eq0 : goal.returns-then-updates-eq0
returns-then-updates-eq0 c = rw (eq-eqb _ _ c.if-signal-eq2.true, eq-eqb _ _ c.if-updates-eq0.true)

pub returns-else-updates-eq0 : goal.returns-else-updates-eq0
returns-else-updates-eq0 c = rw (eq-eqb _ _ c.if-signal-eq2.true, ne_eqb _ _ c.if-updates-eq0.false)

pub returns-else-signal-eq2 : goal.returns-else-signal-eq2
returns-else-signal-eq2 c = rw (ne_eqb _ _ c.if-signal-eq2.false)
