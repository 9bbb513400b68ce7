use mathlib.Core.Path.{sym, ◌∙◌}
use mathlib.Core.Bool.{Bool}
use Prim.Native.Nat.{ℕ}
use Rattle.lists.specs.Lists.{all, below}
use Rattle.chart_records.specs.Chart.{Chart}
use Rattle.chart_records.specs.Laid.{apart_from}
use Rattle.chart_rules.proofs.Crossings.{numbered_none, numbered_more, numbered_stop, numbered_all, apart_is}
use Rattle.chart_rules.proofs.transition_rule.all_apart.Goals as goal

-- rule 14 of one transition and the first n
abbrev apart_from_all : ℕ → Chart → ℕ → Bool
apart_from_all n c t = all (apart_from c t) (below n)

pub loop-t-init : goal.loop-t-init
loop-t-init c = numbered_none (apart_from_all _) _ _ _ _

pub returns-then-not-is_apart_from_all : goal.returns-then-not-is_apart_from_all
returns-then-not-is_apart_from_all c = λ k L R S.
    numbered_stop (apart_from_all _) _ _ _ _ c.loop-t.invariant c.loop-t-test.true
    (λ k H. c.is_apart_from_all.ensures k H.0 H.1 H.2 c.loop-t-test.true) (c.if-not-is_apart_from_all.true) k (L, R, S)
    ∙ sym (apart_is L)

pub loop-t-preserved : goal.loop-t-preserved
loop-t-preserved c =
    numbered_more (apart_from_all _) _ _ _ _ c.loop-t.invariant c.loop-t-test.true
    (λ k H. c.is_apart_from_all.ensures k H.0 H.1 H.2 c.loop-t-test.true) (c.if-not-is_apart_from_all.false)

pub returns : goal.returns
returns c = λ k L R S. numbered_all (apart_from_all _) _ _ _ _ c.loop-t.invariant c.loop-t-test.false k (L, R, S) ∙ sym (apart_is L)
