use borrow.Author.Tests.{eq-eqb, ne_eqb}
use Rattle.chart_records.specs.Chart.{parent_of, parallel}
use Rattle.lists.specs.Lists.{implies}
use Rattle.chart_rules.proofs.rule.inherits.Goals as goal

pub returns-then-s-eq0 : goal.returns-then-s-eq0
returns-then-s-eq0 c = λ k S. rw (eq-eqb _ 0 c.if-s-eq0.true)

pub returns-then-kind_of-ne2 : goal.returns-then-kind_of-ne2
unfolding parallel parent_of implies
returns-then-kind_of-ne2 c = λ k S. rw (ne_eqb _ 0 c.if-s-eq0.false, ← c.parent_of-p.ensures k S, ← c.kind_of.ensures k S, ne_eqb _ 2 c.if-kind_of-ne2.true)

pub returns : goal.returns
unfolding parallel parent_of implies
returns c =
    λ k S. rw (
      ne_eqb _ 0 c.if-s-eq0.false,
      ← c.parent_of-p.ensures k S,
      ← c.kind_of.ensures k S,
      eq-eqb _ 2 c.if-kind_of-ne2.false,
      ← c.entries_of.ensures k S,
      ← c.entries_of-2.ensures k S,
    )
