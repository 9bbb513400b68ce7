use borrow.Author.Tests.{eq-eqb, ne_eqb}
use Rattle.chart_records.specs.Chart.{parent_of}
use Rattle.chart_rules.proofs.rule.is_child.Goals as goal

pub returns-then-s-ne0 : goal.returns-then-s-ne0
unfolding parent_of
returns-then-s-ne0 c = λ k S. rw (ne_eqb _ 0 c.if-s-ne0.true, ← c.parent_of.ensures k S)

pub returns-else-s-ne0 : goal.returns-else-s-ne0
returns-else-s-ne0 c = λ k S. rw (eq-eqb _ 0 c.if-s-ne0.false)
