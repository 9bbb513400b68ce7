use Rattle.chart_records.specs.Rules.{exit_marks, exits_fit}
use Rattle.chart_rules.proofs.Checks.{tested_none, tested_more, tested_stop, tested_all}
use Rattle.chart_rules.proofs.rule.exit_marks.Goals as goal

pub loop-s-init : goal.loop-s-init
loop-s-init c = tested_none exits_fit _ _

pub returns-then-not-exits_fit : goal.returns-then-not-exits_fit
unfolding exit_marks
returns-then-not-exits_fit c = tested_stop exits_fit _ _ c.loop-s.invariant c.loop-s-test.true c.exits_fit.ensures (c.if-not-exits_fit.true)

pub loop-s-preserved : goal.loop-s-preserved
loop-s-preserved c = tested_more exits_fit _ _ c.loop-s.invariant c.loop-s-test.true c.exits_fit.ensures (c.if-not-exits_fit.false)

pub returns : goal.returns
unfolding exit_marks
returns c = tested_all exits_fit _ _ c.loop-s.invariant c.loop-s-test.false
