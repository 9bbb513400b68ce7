use Rattle.chart_moves.proofs.Activities.{active_child_lem, children_first}
use Rattle.lists.proofs.Below.{below_next, below_end}
use Rattle.lists.proofs.Lists.{counted_next, counted_left, counted_all}
use lib.ListN.{length}
use native.Mathlib.Omega.{arith}
use Prim.Native.Nat.{◌<◌}
use mathlib.Core.Path.{refl, ◌∙◌}
use Rattle.chart_moves.proofs.activity.active_children.Goals as goal
use Rattle.chart_moves.proofs.activity.active_children.Goals.{then-is_active_child, else-is_active_child}

pub loop-s-init : goal.loop-s-init
loop-s-init c = (omega arith, λ d σ R a e. children_first d σ _ _ R a c.args.q)

pub loop-s-preserved : goal.loop-s-preserved
loop-s-preserved c =
    elim c.if-is_active_child.branch [
      | then-is_active_child w ↦ (
        omega (arith, w.count-is, c.loop-s.invariant.0),
        λ d σ R a e.
            let h : c.loop-s.s < length d.states = omega (arith, e, c.loop-s-test.true) in
            counted_next _ (below_next refl _ h) _ (c.loop-s.invariant.1 d σ R a e) (active_child_lem d σ _ _ R a _ c.loop-s.s (omega (arith, c.loop-s.invariant.0)) h c.is_active_child.ensures ∙ w.if-is_active_child.true) w.count-is,
      )
      | else-is_active_child w ↦ (
        omega (arith, w.count-is, c.loop-s.invariant.0),
        λ d σ R a e.
            let h : c.loop-s.s < length d.states = omega (arith, e, c.loop-s-test.true) in
            counted_left _ (below_next refl _ h) _ (c.loop-s.invariant.1 d σ R a e) (active_child_lem d σ _ _ R a _ c.loop-s.s (omega (arith, c.loop-s.invariant.0)) h c.is_active_child.ensures ∙ w.if-is_active_child.false) w.count-is,
      )
    ]

pub returns : goal.returns
returns c = λ d σ R a e. counted_all _ _ (c.loop-s.invariant.1 d σ R a e) (below_end {m = length d.states} refl c.loop-s.s (omega (arith, e, c.loop-s-test.false)))
