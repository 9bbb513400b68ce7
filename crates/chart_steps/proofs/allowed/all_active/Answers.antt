use mathlib.Core.Path.{refl, sym, ap, ◌∙◌}
use mathlib.Core.List.{List, map}
use Prim.Native.Nat.{ℕ}
use lib.ListN.{drop_of_length-le}
use Rattle.lists.specs.Lists.{all}
use Rattle.lists.proofs.Lists.{all_next, all_stop}
use Rattle.lists.proofs.Parts.{drop_next}
use Rattle.chart_records.specs.Chart.{transition_at}
use Rattle.chart_moves.specs.Machine.{active_transition}
use Rattle.chart_steps.proofs.Choices.{chosen_at}
use Rattle.chart_steps.proofs.allowed.all_active.Goals as goal

pub loop-m-init : goal.loop-m-init
loop-m-init c = λ k R h. refl

pub returns-then-not-is_active : goal.returns-then-not-is_active
returns-then-not-is_active c = λ k R h. sym (c.loop-m.invariant k R h ∙ all_stop _ (ap (map (transition_at k)) (drop_next _ _ 0 c.loop-m-test.true))
    (sym (chosen_at R.ready.laid _ h _ c.loop-m-test.true c.chosen.ensures (λ m. active_transition k c.args.given (transition_at k m)) (c.is_active.ensures k R)) ∙ c.if-not-is_active.true))

pub loop-m-preserved : goal.loop-m-preserved
loop-m-preserved c = λ k R h. c.loop-m.invariant k R h ∙ all_next _ (ap (map (transition_at k)) (drop_next _ _ 0 c.loop-m-test.true))
    (sym (chosen_at R.ready.laid _ h _ c.loop-m-test.true c.chosen.ensures (λ m. active_transition k c.args.given (transition_at k m)) (c.is_active.ensures k R)) ∙ c.if-not-is_active.false)

pub returns : goal.returns
unfolding all
returns c = λ k R h. sym (c.loop-m.invariant k R h ∙ ap (λ (xs : List ℕ). all (active_transition k c.args.given) (map (transition_at k) xs)) (drop_of_length-le _ c.loop-m-test.false))
