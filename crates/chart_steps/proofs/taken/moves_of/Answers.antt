use mathlib.Core.Path.{sym, subst}
use mathlib.Core.List.{List, map}
use Prim.Native.Nat.{ℕ}
use lib.Seq.{take_all}
use Rattle.lists.proofs.Images.{map_front}
use Rattle.chart_records.specs.Chart.{Transition, transition_at}
use Rattle.chart_moves.specs.Active.{Moved}
use Rattle.steps.proofs.Moves.{before_few}
use Rattle.chart_steps.proofs.Choices.{chosen_at}
use Rattle.chart_steps.proofs.taken.moves_of.Goals as goal

pub loop-m-init : goal.loop-m-init
loop-m-init c = λ k n L h. c.no_moves-moves.ensures

pub loop-m-preserved : goal.loop-m-preserved
loop-m-preserved c = λ k n L h. subst (λ (ts : List Transition). Moved ts c.with_move-next.result) (sym (map_front (transition_at k) _ _ 0 c.loop-m-test.true))
    (c.with_move-next.ensures _ _ (c.loop-m.invariant k n L h) (before_few (transition_at k) _ _ h _ c.loop-m-test.true)
    (chosen_at L _ h _ c.loop-m-test.true c.chosen-t.ensures (λ m. (transition_at k m).source) (c.source_of-source.ensures k n L))
    (chosen_at L _ h _ c.loop-m-test.true c.chosen-t.ensures (λ m. (transition_at k m).destination) (c.destination_of-destination.ensures k n L))
    (chosen_at L _ h _ c.loop-m-test.true c.chosen-t.ensures (λ m. (transition_at k m).entry) (c.entry_of-entry.ensures k n L)))

pub returns : goal.returns
returns c = λ k n L h. subst (λ (xs : List ℕ). Moved (map (transition_at k) xs) c.loop-m.moves) (take_all _ _ c.loop-m-test.false) (c.loop-m.invariant k n L h)
