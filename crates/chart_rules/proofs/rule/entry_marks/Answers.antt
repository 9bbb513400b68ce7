use borrow.Author.Tests.{eq-eqb, ne_eqb}
use Rattle.chart_records.specs.Rules.{entry_marks, entries_fit}
use Rattle.chart_rules.proofs.Checks.{tested_none, tested_more, tested_stop, tested_all}
use Rattle.chart_rules.proofs.rule.entry_marks.Goals as goal

pub returns-then-entries_of-ne1 : goal.returns-then-entries_of-ne1
unfolding entry_marks
returns-then-entries_of-ne1 c = λ k S. rw (← c.entries_of.ensures k S, ne_eqb _ 1 c.if-entries_of-ne1.true)

pub loop-s-init : goal.loop-s-init
loop-s-init c = tested_none entries_fit _ _

pub returns-then-not-entries_fit : goal.returns-then-not-entries_fit
unfolding entry_marks
returns-then-not-entries_fit c = λ k S. rw (← c.entries_of.ensures k S, eq-eqb _ 1 c.if-entries_of-ne1.false)
    (tested_stop entries_fit _ _ c.loop-s.invariant c.loop-s-test.true c.entries_fit.ensures (c.if-not-entries_fit.true) k S)

pub loop-s-preserved : goal.loop-s-preserved
loop-s-preserved c = tested_more entries_fit _ _ c.loop-s.invariant c.loop-s-test.true c.entries_fit.ensures (c.if-not-entries_fit.false)

pub returns : goal.returns
unfolding entry_marks
returns c = λ k S. rw (← c.entries_of.ensures k S, eq-eqb _ 1 c.if-entries_of-ne1.false)
    (tested_all entries_fit _ _ c.loop-s.invariant c.loop-s-test.false k S)
