use mathlib.Core.Bool.{Bool, ◌&&◌, and-false}
use Rattle.chart_moves.specs.Active.{linked, single}
use Rattle.lists.proofs.Lists.{all_next, all_stop}
use Rattle.lists.proofs.Below.{below_next, below_end}
use Rattle.lists.proofs.Bools.{both}
use Rattle.lists.specs.Lists.{all}
use native.Mathlib.Omega.{arith}
use mathlib.Core.Path.{refl, sym, ap, ◌∙◌}
use Rattle.chart_moves.proofs.activity.all_placed.Goals as goal

pub loop-s-init : goal.loop-s-init
loop-s-init c = λ d σ S e. refl

pub returns-then-not-is_linked : goal.returns-then-not-is_linked
returns-then-not-is_linked c = λ d σ S e.
    sym (c.loop-s.invariant d σ S e ∙ all_stop _ (below_next refl _ c.loop-s-test.true) (ap (λ (b : Bool). b && single d σ c.loop-s.s) (sym (c.is_linked.ensures d σ S (omega (arith, e, c.loop-s-test.true))) ∙ c.if-not-is_linked.true)))

pub returns-then-not-is_single : goal.returns-then-not-is_single
returns-then-not-is_single c =
    λ d σ S e.
    sym (c.loop-s.invariant d σ S e ∙ all_stop _ (below_next refl _ c.loop-s-test.true)
    (ap (λ (b : Bool). linked d σ c.loop-s.s && b)
    (sym (c.is_single.ensures d σ S e (omega (arith, e, c.loop-s-test.true))) ∙ c.if-not-is_single.true)
    ∙ and-false (linked d σ c.loop-s.s)))

pub loop-s-preserved : goal.loop-s-preserved
loop-s-preserved c =
    λ d σ S e.
    c.loop-s.invariant d σ S e ∙ all_next _ (below_next refl _ c.loop-s-test.true)
    (both (sym (c.is_linked.ensures d σ S (omega (arith, e, c.loop-s-test.true))) ∙ c.if-not-is_linked.false)
    (sym (c.is_single.ensures d σ S e (omega (arith, e, c.loop-s-test.true))) ∙ c.if-not-is_single.false))

pub returns : goal.returns
unfolding all
returns c = λ d σ S e. sym (c.loop-s.invariant d σ S e ∙ ap (all _) (below_end refl _ c.loop-s-test.false))
