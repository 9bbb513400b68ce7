use Rattle.chart_records.specs.Rules.{siblings}
use Rattle.chart_rules.proofs.Crossings.{crossed_none, crossed_more, crossed_stop, crossed_all}
use Rattle.chart_rules.proofs.transition_rule.all_siblings.Goals as goal

pub loop-t-init : goal.loop-t-init
loop-t-init c = crossed_none siblings _ _ _

pub returns-then-not-are_siblings : goal.returns-then-not-are_siblings
returns-then-not-are_siblings c =
    crossed_stop siblings _ _ _ c.loop-t.invariant c.loop-t-test.true
    (λ k L. c.are_siblings.ensures k _ L.stated (c.source_of-source.ensures k _ L c.loop-t-test.true) (c.destination_of-destination.ensures k _ L c.loop-t-test.true))
    (c.if-not-are_siblings.true)

pub loop-t-preserved : goal.loop-t-preserved
loop-t-preserved c =
    crossed_more siblings _ _ _ c.loop-t.invariant c.loop-t-test.true
    (λ k L. c.are_siblings.ensures k _ L.stated (c.source_of-source.ensures k _ L c.loop-t-test.true) (c.destination_of-destination.ensures k _ L c.loop-t-test.true))
    (c.if-not-are_siblings.false)

pub returns : goal.returns
returns c = crossed_all siblings _ _ _ c.loop-t.invariant c.loop-t-test.false
