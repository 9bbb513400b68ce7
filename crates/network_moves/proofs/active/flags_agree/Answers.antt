use mathlib.Core.Path.{refl, sym, ap, ◌∙◌}
use Rattle.lists.specs.Lists.{all}
use Rattle.lists.proofs.Lists.{all_next, all_stop}
use Rattle.lists.proofs.Below.{below_next, below_end}
use Rattle.network_moves.specs.Machine.{flags_agree}
use Rattle.network_moves.proofs.Activity.{flag_kept}
use Rattle.network_moves.proofs.active.flags_agree.Goals as goal

pub loop-a-init : goal.loop-a-init
loop-a-init c = λ k s d K. refl

pub returns-then-not-flag_agrees : goal.returns-then-not-flag_agrees
unfolding flags_agree
returns-then-not-flag_agrees c = λ k s d K. sym (c.loop-a.invariant k s d K ∙ all_stop _ (below_next refl _ c.loop-a-test.true) (flag_kept K _ _ c.flag_agrees.ensures c.has-tested.ensures c.has-needed.ensures ∙ c.if-not-flag_agrees.true))

pub loop-a-preserved : goal.loop-a-preserved
loop-a-preserved c = λ k s d K. c.loop-a.invariant k s d K ∙ all_next _ (below_next refl _ c.loop-a-test.true) (flag_kept K _ _ c.flag_agrees.ensures c.has-tested.ensures c.has-needed.ensures ∙ c.if-not-flag_agrees.false)

pub returns : goal.returns
unfolding all flags_agree
returns c = λ k s d K. sym (c.loop-a.invariant k s d K ∙ ap (all _) (below_end refl _ c.loop-a-test.false))
