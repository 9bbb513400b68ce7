use mathlib.Core.Path.{sym, ◌∙◌}
use borrow.Author.Tests.{eq-eqb, ne_eqb}
use Rattle.chart_records.specs.Chart.{sequential}
use Rattle.lists.specs.Lists.{implies}
use Rattle.chart_rules.proofs.rule.entries_fit.Goals as goal

pub returns-then-not-inherits : goal.returns-then-not-inherits
returns-then-not-inherits c = λ k S. rw (sym (c.inherits.ensures k S) ∙ c.if-not-inherits.true)

pub returns-then-kind_of-ne1 : goal.returns-then-kind_of-ne1
unfolding sequential implies
returns-then-kind_of-ne1 c = λ k S. rw (sym (c.inherits.ensures k S) ∙ c.if-not-inherits.false, ← c.kind_of.ensures k S, ne_eqb _ 1 c.if-kind_of-ne1.true)

pub returns : goal.returns
unfolding sequential implies
returns c = λ k S. rw (sym (c.inherits.ensures k S) ∙ c.if-not-inherits.false, ← c.kind_of.ensures k S, eq-eqb _ 1 c.if-kind_of-ne1.false) (c.children_marked.ensures k S)
