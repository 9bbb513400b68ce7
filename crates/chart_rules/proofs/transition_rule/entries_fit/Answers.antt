use Rattle.chart_records.specs.Rules.{entries}
use Rattle.chart_rules.proofs.Crossings.{crossed_none, crossed_more, crossed_stop, crossed_all}
use Rattle.chart_rules.proofs.transition_rule.entries_fit.Goals as goal

pub loop-t-init : goal.loop-t-init
loop-t-init c = crossed_none entries _ _ _

pub returns-then-not-entry_fits : goal.returns-then-not-entry_fits
returns-then-not-entry_fits c =
    crossed_stop entries _ _ _ c.loop-t.invariant c.loop-t-test.true
    (λ k L. c.entry_fits.ensures k _ L.stated (c.destination_of-destination.ensures k _ L c.loop-t-test.true) (c.entry_of-entry.ensures k _ L c.loop-t-test.true))
    (c.if-not-entry_fits.true)

pub loop-t-preserved : goal.loop-t-preserved
loop-t-preserved c =
    crossed_more entries _ _ _ c.loop-t.invariant c.loop-t-test.true
    (λ k L. c.entry_fits.ensures k _ L.stated (c.destination_of-destination.ensures k _ L c.loop-t-test.true) (c.entry_of-entry.ensures k _ L c.loop-t-test.true))
    (c.if-not-entry_fits.false)

pub returns : goal.returns
returns c = crossed_all entries _ _ _ c.loop-t.invariant c.loop-t-test.false
