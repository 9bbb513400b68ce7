-- Labels that are taken one by one: the resets and the updates of the first, and then those of the others.
use mathlib.Core.Path.{◌≡◌, sym, ap, ◌∙◌}
use mathlib.Core.Bool.{Bool, ◌&&◌, and_assoc}
use mathlib.Core.List.{List, ◌∷◌, map}
use Prim.Native.Nat.{ℕ}
use lib.IntN.{ℤ}
use Rattle.lists.specs.Lists.{all, concat}
use Rattle.updates.specs.Update.{stays, assign}
use Rattle.labels.specs.Label.{Label}
use Rattle.clocks.specs.Clocks.{reset}
use Rattle.steps.specs.Moves.{clocks_after}
use Rattle.lists.proofs.Lists.{all_append}
use Rattle.updates.proofs.Updates.{assign_append}

module _ {l rest : List ℕ} {m : ℕ} (f : ℕ → Label) (e : l ≡ m ∷ rest) where
  pub clocks_next : (cs : List ℕ) → clocks_after (map f l) cs ≡ clocks_after (map f rest) (reset (f m).resets cs)
  unfolding clocks_after
  clocks_next cs = rw e

  pub variables_next : (old vs : List ℤ) →
      assign old (concat (λ l. l.body.updates) (map f l)) vs
      ≡ assign old (concat (λ l. l.body.updates) (map f rest)) (assign old (f m).body.updates vs)
  unfolding concat
  variables_next old vs = rw e (assign_append old (f m).body.updates (concat (λ l. l.body.updates) (map f rest)) vs)

  stay_next : (old : List ℤ) →
      all (stays old) (concat (λ l. l.body.updates) (map f l))
      ≡ (all (stays old) (f m).body.updates && all (stays old) (concat (λ l. l.body.updates) (map f rest)))
  unfolding concat
  stay_next old = rw e (all_append (stays old) (f m).body.updates (concat (λ l. l.body.updates) (map f rest)))

  -- `before` is whether the updates of the labels before these stay in the range, and `now` whether those of the first do too
  pub stay_more : (old : List ℤ) (before : Bool) {now : Bool} → now ≡ (before && all (stays old) (f m).body.updates) →
      (before && all (stays old) (concat (λ l. l.body.updates) (map f l))) ≡ (now && all (stays old) (concat (λ l. l.body.updates) (map f rest)))
  stay_more old before h =
      ap (λ (b : Bool). before && b) (stay_next old)
      ∙ sym (and_assoc before (all (stays old) (f m).body.updates) (all (stays old) (concat (λ l. l.body.updates) (map f rest))))
      ∙ ap (λ (b : Bool). b && all (stays old) (concat (λ l. l.body.updates) (map f rest))) (sym h)
