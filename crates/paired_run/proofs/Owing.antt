-- The exits and entries that transitions name.
use Rattle.std.proofs.Common.{◌≡◌, ℕ, ◌+◌, ◌*◌, ◌<◌, ◌≤◌, Bool, true, false, cond, not, eqb, leb, List, [], ◌∷◌, length, get_or, drop, ap, ◌∙◌, ap₂, arith, drop_of_length-le, leb-true}
use Rattle.lists.proofs.Parts.{drop_next}
use Rattle.chart_records.specs.Chart.{Chart, in_range, transition_at}
use Rattle.chart_records.specs.declared.header.Counts.{Counts}
use Rattle.flattening.specs.Flatten.{has_exit, has_entry}
use Rattle.agreement.specs.Agreement.{named}
use Rattle.lists.proofs.Bools.{parts}

one_few : (b : Bool) → cond b 1 0 ≤ 1
one_few true = omega arith
one_few false = omega arith

pub few_transitions : (k : Counts) → in_range k ≡ true → k.transitions ≤ 64
unfolding in_range
few_transitions k h = let e : leb k.transitions 64 ≡ true = search parts depth 12 in leb-true k.transitions 64 e

module _ (c : Chart) where
  -- of one transition, by its exit and its entry
  pub named_one : (t : ℕ) {x e a b : ℕ} → x ≡ (transition_at c t).exit → e ≡ (transition_at c t).entry → a ≡ cond (not (eqb x 255)) 1 0 → b ≡ cond (not (eqb e 255)) 1 0 → a + b ≡ cond (has_exit c t) 1 0 + cond (has_entry c t) 1 0
  unfolding has_exit has_entry
  named_one t p q f g = ap₂ ◌+◌ (f ∙ ap (λ (n : ℕ). cond (not (eqb n 255)) 1 0) p) (g ∙ ap (λ (n : ℕ). cond (not (eqb n 255)) 1 0) q)

  pub named_few : (ts : List ℕ) → named c ts ≤ 2 * length ts
  unfolding named
  named_few [] = omega arith
  named_few (t ∷ ts) = omega (arith, named_few ts, one_few (has_exit c t), one_few (has_entry c t))

  -- of a list, from a place on
  module _ (ts : List ℕ) (i : ℕ) where
    pub named_next : i < length ts → named c (drop i ts) ≡ cond (has_exit c (get_or ts i 0)) 1 0 + cond (has_entry c (get_or ts i 0)) 1 0 + named c (drop (i + 1) ts)
    unfolding named
    named_next h = rw (drop_next ts i 0 h)

    pub named_end : length ts ≤ i → named c (drop i ts) ≡ 0
    unfolding named
    named_end h = rw (drop_of_length-le ts {i = i} h)
