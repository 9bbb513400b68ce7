use borrow.Author.Tests.{eq-eqb, ne_eqb}
use Rattle.chart_records.specs.Chart.{parent_of, sequential}
use Rattle.chart_records.specs.Rules.{siblings}
use Rattle.chart_rules.proofs.transition_rule.are_siblings.Goals as goal

pub returns-then-source-eq0 : goal.returns-then-source-eq0
unfolding siblings parent_of sequential
returns-then-source-eq0 c = λ k t S e f. rw (← e, eq-eqb _ 0 c.if-source-eq0.true)

pub returns-then-destination-eq0 : goal.returns-then-destination-eq0
unfolding siblings parent_of sequential
returns-then-destination-eq0 c = λ k t S e f. rw (← e, ne_eqb _ 0 c.if-source-eq0.false, ← f, eq-eqb _ 0 c.if-destination-eq0.true)

pub returns-then-above-parent_of : goal.returns-then-above-parent_of
unfolding siblings parent_of sequential
returns-then-above-parent_of c = λ k t S e f. rw (← e, ne_eqb _ 0 c.if-source-eq0.false, ← f, ne_eqb _ 0 c.if-destination-eq0.false, ← c.parent_of-above.ensures k S, ← c.parent_of.ensures k S, ne_eqb _ _ c.if-above-parent_of.true)

pub returns : goal.returns
unfolding siblings parent_of sequential
returns c =
    λ k t S e f. rw (
      ← e,
      ne_eqb _ 0 c.if-source-eq0.false,
      ← f,
      ne_eqb _ 0 c.if-destination-eq0.false,
      ← c.parent_of-above.ensures k S,
      ← c.parent_of.ensures k S,
      eq-eqb _ _ c.if-above-parent_of.false,
      ← c.kind_of.ensures k S,
    )
