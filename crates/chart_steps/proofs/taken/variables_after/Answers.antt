use mathlib.Core.Path.{refl, sym, ap, ◌∙◌}
use mathlib.Core.Bool.{Bool, ◌&&◌, and-true}
use mathlib.Core.List.{List, map}
use Prim.Native.Nat.{ℕ}
use lib.ListN.{drop_of_length-le}
use Rattle.steps.specs.Moves.{all_stay, variables_after}
use Rattle.lists.specs.Lists.{all, concat}
use Rattle.updates.specs.Update.{stays, assign}
use Rattle.lists.proofs.Parts.{drop_next}
use Rattle.chart_records.specs.Chart.{transition_at}
use Rattle.chart_steps.proofs.Choices.{chosen_at, body_here}
use Rattle.steps.proofs.Turns.{variables_next, stay_more}
use Rattle.chart_steps.proofs.taken.variables_after.Goals as goal

pub loop-m-init : goal.loop-m-init
loop-m-init c = λ k L h. (refl, refl)

pub loop-m-preserved : goal.loop-m-preserved
loop-m-preserved c = λ k L h.
    let g = c.loop-m.invariant k L h in (
      g.0 ∙ stay_more (λ m. (transition_at k m).label) (drop_next _ _ 0 c.loop-m-test.true) c.args.old c.loop-m.within
          (ap (λ (b : Bool). c.loop-m.within && b)
          (chosen_at L _ h _ c.loop-m-test.true c.chosen.ensures (λ m. all (stays c.args.old) (transition_at k m).label.body.updates) (λ s. let b = body_here L _ s c.body_of-body.ensures c.limits.ensures in c.assigned-next.ensures.within _ b.0 b.1))),
      g.1 ∙ variables_next _ (drop_next _ _ 0 c.loop-m-test.true) _ _
          ∙ ap (assign c.args.old _)
          (sym (chosen_at L _ h _ c.loop-m-test.true c.chosen.ensures (λ m. assign c.args.old (transition_at k m).label.body.updates c.loop-m.values) (λ s. let b = body_here L _ s c.body_of-body.ensures c.limits.ensures in c.assigned-next.ensures.values _ b.0 b.1))),
    )

pub returns : goal.returns
unfolding all_stay variables_after all assign concat
returns c =
    let none = drop_of_length-le _ c.loop-m-test.false in record {
      within = λ k L h. sym ((c.loop-m.invariant k L h).0
          ∙ ap (λ (xs : List ℕ). c.loop-m.within && all (stays c.args.old) (concat (λ l'. l'.body.updates) (map (λ m. (transition_at k m).label) xs))) none ∙ and-true c.loop-m.within);
      values = λ k L h. sym ((c.loop-m.invariant k L h).1
          ∙ ap (λ (xs : List ℕ). assign c.args.old (concat (λ l'. l'.body.updates) (map (λ m. (transition_at k m).label) xs)) c.loop-m.values) none);
    }
