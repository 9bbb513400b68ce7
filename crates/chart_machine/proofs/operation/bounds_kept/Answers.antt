use mathlib.Core.Path.{refl, sym, ap, ◌∙◌}
use Rattle.lists.specs.Lists.{all}
use Rattle.lists.proofs.Lists.{all_next, all_stop}
use Rattle.chart_moves.specs.Machine.{bounds_kept}
use Rattle.chart_machine.specs.Configured.{bound_kept}
use Rattle.chart_rules.proofs.Checks.{states_next, states_end}
use Rattle.chart_machine.proofs.operation.bounds_kept.Goals as goal

pub loop-s-init : goal.loop-s-init
loop-s-init c = λ k S. refl

pub returns-then-not-bound_kept : goal.returns-then-not-bound_kept
unfolding bounds_kept
returns-then-not-bound_kept c =
    λ k S. sym (c.loop-s.invariant k S ∙ all_stop (bound_kept k c.args.given) (states_next S _ c.loop-s-test.true)
    (sym (c.bound_kept.ensures k S c.loop-s-test.true) ∙ c.if-not-bound_kept.true))

pub loop-s-preserved : goal.loop-s-preserved
loop-s-preserved c =
    λ k S. c.loop-s.invariant k S ∙ all_next (bound_kept k c.args.given) (states_next S _ c.loop-s-test.true)
    (sym (c.bound_kept.ensures k S c.loop-s-test.true) ∙ c.if-not-bound_kept.false)

pub returns : goal.returns
unfolding bounds_kept all
returns c = λ k S. sym (c.loop-s.invariant k S ∙ ap (all (bound_kept k c.args.given)) (states_end S _ c.loop-s-test.false))
