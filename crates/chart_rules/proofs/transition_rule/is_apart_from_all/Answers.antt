use Rattle.chart_records.specs.Laid.{apart_from}
use Rattle.chart_rules.proofs.Crossings.{numbered_none, numbered_more, numbered_stop, numbered_all}
use Rattle.chart_rules.proofs.transition_rule.is_apart_from_all.Goals as goal

pub loop-u-init : goal.loop-u-init
loop-u-init c = λ h. numbered_none (λ k. apart_from k _) _ _ _ _

pub returns-then-not-is_apart : goal.returns-then-not-is_apart
returns-then-not-is_apart c = λ k L R S h.
    numbered_stop (λ k. apart_from k _) _ _ _ _ (c.loop-u.invariant h) c.loop-u-test.true
    (λ k H. c.is_apart.ensures k H.0 H.1 H.2 h c.loop-u-test.true) (c.if-not-is_apart.true) k (L, R, S)

pub loop-u-preserved : goal.loop-u-preserved
loop-u-preserved c = λ h.
    numbered_more (λ k. apart_from k _) _ _ _ _ (c.loop-u.invariant h) c.loop-u-test.true
    (λ k H. c.is_apart.ensures k H.0 H.1 H.2 h c.loop-u-test.true) (c.if-not-is_apart.false)

pub returns : goal.returns
returns c = λ k L R S h. numbered_all (λ k. apart_from k _) _ _ _ _ (c.loop-u.invariant h) c.loop-u-test.false k (L, R, S)
