use borrow.Author.Tests.{eq-eqb, ne_eqb}
use Rattle.chart_records.specs.Chart.{basic}
use Rattle.chart_rules.proofs.rule.exits_fit.Goals as goal

pub returns-then-kind_of-eq0 : goal.returns-then-kind_of-eq0
unfolding basic
returns-then-kind_of-eq0 c = λ k S. rw (← c.kind_of.ensures k S, eq-eqb _ 0 c.if-kind_of-eq0.true)

pub returns-else-kind_of-eq0 : goal.returns-else-kind_of-eq0
unfolding basic
returns-else-kind_of-eq0 c = λ k S. rw (← c.kind_of.ensures k S, ne_eqb _ 0 c.if-kind_of-eq0.false, ← c.exits_of.ensures k S)
