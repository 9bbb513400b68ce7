use Rattle.chart_records.specs.Rules.{exits}
use Rattle.chart_rules.proofs.Crossings.{crossed_none, crossed_more, crossed_stop, crossed_all}
use Rattle.chart_rules.proofs.transition_rule.exits_fit.Goals as goal

pub loop-t-init : goal.loop-t-init
loop-t-init c = crossed_none exits _ _ _

pub returns-then-not-exit_fits : goal.returns-then-not-exit_fits
returns-then-not-exit_fits c =
    crossed_stop exits _ _ _ c.loop-t.invariant c.loop-t-test.true
    (λ k L. c.exit_fits.ensures k _ L.stated (c.source_of-source.ensures k _ L c.loop-t-test.true) (c.exit_of-exit.ensures k _ L c.loop-t-test.true))
    (c.if-not-exit_fits.true)

pub loop-t-preserved : goal.loop-t-preserved
loop-t-preserved c =
    crossed_more exits _ _ _ c.loop-t.invariant c.loop-t-test.true
    (λ k L. c.exit_fits.ensures k _ L.stated (c.source_of-source.ensures k _ L c.loop-t-test.true) (c.exit_of-exit.ensures k _ L c.loop-t-test.true))
    (c.if-not-exit_fits.false)

pub returns : goal.returns
returns c = crossed_all exits _ _ _ c.loop-t.invariant c.loop-t-test.false
