use Rattle.chart_records.specs.Rules.{parents, placed}
use Rattle.chart_rules.proofs.Checks.{tested_none, tested_more, tested_stop, tested_all}
use Rattle.chart_rules.proofs.rule.parents.Goals as goal

pub loop-s-init : goal.loop-s-init
loop-s-init c = tested_none placed _ _

pub returns-then-not-is_placed : goal.returns-then-not-is_placed
unfolding parents
returns-then-not-is_placed c = tested_stop placed _ _ c.loop-s.invariant c.loop-s-test.true c.is_placed.ensures (c.if-not-is_placed.true)

pub loop-s-preserved : goal.loop-s-preserved
loop-s-preserved c = tested_more placed _ _ c.loop-s.invariant c.loop-s-test.true c.is_placed.ensures (c.if-not-is_placed.false)

pub returns : goal.returns
unfolding parents
returns c = tested_all placed _ _ c.loop-s.invariant c.loop-s-test.false
