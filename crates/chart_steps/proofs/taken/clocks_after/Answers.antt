use mathlib.Core.Path.{refl, sym, ap, ◌∙◌}
use mathlib.Core.List.{List, map}
use Prim.Native.Nat.{ℕ}
use lib.ListN.{drop_of_length-le}
use Rattle.steps.specs.Moves.{clocks_after}
use Rattle.clocks.specs.Clocks.{reset}
use Rattle.lists.proofs.Parts.{drop_next}
use Rattle.chart_records.specs.Chart.{transition_at}
use Rattle.chart_steps.proofs.Choices.{chosen_at}
use Rattle.steps.proofs.Turns.{clocks_next}
use Rattle.chart_steps.proofs.taken.clocks_after.Goals as goal

pub loop-m-init : goal.loop-m-init
loop-m-init c = λ k n L h. refl

pub loop-m-preserved : goal.loop-m-preserved
loop-m-preserved c = λ k n L h. c.loop-m.invariant k n L h ∙ clocks_next _ (drop_next _ _ 0 c.loop-m-test.true) _
    ∙ ap (clocks_after _) (ap (λ (b : ℕ). reset b c.loop-m.after) (sym (chosen_at L _ h _ c.loop-m-test.true c.chosen.ensures (λ m. (transition_at k m).label.resets) (c.resets_of-resets.ensures k n L))) ∙ sym c.reset-next.ensures)

pub returns : goal.returns
unfolding clocks_after
returns c = λ k n L h. sym (c.loop-m.invariant k n L h ∙ ap (λ (xs : List ℕ). clocks_after (map (λ m. (transition_at k m).label) xs) c.loop-m.after) (drop_of_length-le _ c.loop-m-test.false))
