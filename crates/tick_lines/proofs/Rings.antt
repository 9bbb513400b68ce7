-- The ring: where its ticks stand, and what it holds after one more; what the pass has found with it.
use mathlib.Core.Path.{◌≡◌, refl, sym, ap, ◌∙◌}
use mathlib.Core.Bool.{Bool, true, false}
use mathlib.Core.Logic.{⊎_elim}
use mathlib.Core.List.{List, [], ◌∷◌, ◌++◌}
use Prim.Native.Nat.{ℕ, ◌+◌, ◌-◌, ◌≤◌, ◌<◌, min}
use native.Mathlib.Omega.{arith}
use native.Mathlib.Decide.{ℕ_discrete}
use borrow.Author.Tests.{le-leb, lt-leb, leb-true, leb-false, ltb-true, ltb-false, lt-ltb, le-ltb}
use lib.Dec.{leb, ltb}
use lib.ListN.{length, get_or, set, length-set, get_or-append}
use lib.Seq.{get_or-set_same, get_or-set_other, get_or-append_seam}
use Rattle.lists.proofs.Bools.{decided, cond_yes, cond_no}
use Rattle.reading.specs.Answer.{done}
use Rattle.break_windows.specs.Breaks.{in_window, most_breaks, counted, busiest_of}
use Rattle.break_windows.specs.Found.{at, Found}
use Rattle.break_windows.proofs.Appended.{one_longer, found_first, found_end_grown, found_end_same}
use Rattle.break_windows.proofs.Passing.{most, found_all, found_none}
use Rattle.tick_lines.specs.Rings.{place_of, next_place, no_ticks, Ring, Holds}
use Rattle.tick_lines.specs.declared.recent.Recent.{Recent}

-- places
pub place_low : (n k : ℕ) → k ≤ n → place_of n k ≡ n - k
place_low n k h = cond_yes _ _ (le-leb k n h)

pub place_high : (n k : ℕ) → n < k → place_of n k ≡ n + 65536 - k
place_high n k h = cond_no _ _ (lt-leb k n h)

pub next_low : (n : ℕ) → n < 65535 → next_place n ≡ n + 1
next_low n h = cond_yes _ _ (lt-ltb n 65535 h)

pub next_high : (n : ℕ) → 65535 ≤ n → next_place n ≡ 0
next_high n h = cond_no _ _ (le-ltb n 65535 h)

pub place_inside : (n k : ℕ) → n < 65536 → 1 ≤ k → k ≤ 65536 → place_of n k < 65536
place_inside n k h l g = ⊎_elim
    (λ e. omega (arith, place_low n k (leb-true k n e)))
    (λ e. omega (arith, leb-false k n e, place_high n k (leb-false k n e)))
    (decided (leb k n))

next_inside : (n : ℕ) → n < 65536 → next_place n < 65536
next_inside n h = ⊎_elim
    (λ e. omega (arith, ltb-true n 65535 e, next_low n (ltb-true n 65535 e)))
    (λ e. omega (arith, next_high n (ltb-false n 65535 e)))
    (decided (ltb n 65535))

-- the tick that was put last stands at the place before the next, and those before it stay where they were
place_last : (n : ℕ) → n < 65536 → place_of (next_place n) 1 ≡ n
place_last n h = ⊎_elim
    (λ e. ap (λ (i : ℕ). place_of i 1) (next_low n (ltb-true n 65535 e)) ∙ place_low (n + 1) 1 (omega arith) ∙ omega arith)
    (λ e. ap (λ (i : ℕ). place_of i 1) (next_high n (ltb-false n 65535 e)) ∙ omega (arith, ltb-false n 65535 e))
    (decided (ltb n 65535))

place_before : (n k : ℕ) → n < 65536 → 1 ≤ k → k < 65536 → place_of (next_place n) (k + 1) ≡ place_of n k
place_before n k h l g = ⊎_elim low high (decided (ltb n 65535))
  where
    low : ltb n 65535 ≡ true → place_of (next_place n) (k + 1) ≡ place_of n k
    low e = ap (λ (i : ℕ). place_of i (k + 1)) (next_low n (ltb-true n 65535 e)) ∙ ⊎_elim
        (λ d. place_low (n + 1) (k + 1) (omega (arith, leb-true k n d)) ∙ omega (arith, place_low n k (leb-true k n d)))
        (λ d. place_high (n + 1) (k + 1) (omega (arith, leb-false k n d)) ∙ omega (arith, leb-false k n d, place_high n k (leb-false k n d)))
        (decided (leb k n))

    high : ltb n 65535 ≡ false → place_of (next_place n) (k + 1) ≡ place_of n k
    high e = ap (λ (i : ℕ). place_of i (k + 1)) (next_high n (ltb-false n 65535 e)) ∙ place_high 0 (k + 1) (omega arith) ∙ omega (arith, ltb-false n 65535 e, place_low n k (omega (arith, ltb-false n 65535 e)))

place_other : (n k : ℕ) → n < 65536 → 1 ≤ k → k < 65536 → place_of n k ≡ n → ⊥
place_other n k h l g q = ⊎_elim
    (λ e. omega (arith, leb-true k n e, place_low n k (leb-true k n e)))
    (λ e. omega (arith, leb-false k n e, place_high n k (leb-false k n e)))
    (decided (leb k n))

-- one tick more
pub ring_more : (ring : List ℕ) (n held : ℕ) (ts : List ℕ) (t : ℕ) → Ring ring n held ts → Ring (set ring n t) (next_place n) (min (held + 1) 65536) (ts ++ (t ∷ []))
ring_more ring n held ts t R = record {
  room = length-set ring n t ∙ R.room;
  inside = next_inside n R.inside;
  some = omega (arith, R.some, one_longer ts t);
  kept = kept;
}
  where
    older : (k j : ℕ) → k ≡ j + 1 → 1 ≤ j → k ≤ min (held + 1) 65536 → get_or (set ring n t) (place_of (next_place n) k) 0 ≡ at (ts ++ (t ∷ [])) (length (ts ++ (t ∷ [])) - k)
    older k j e h l =
        ap (λ (i : ℕ). get_or (set ring n t) (place_of (next_place n) i) 0) e
        ∙ ap (λ (i : ℕ). get_or (set ring n t) i 0) (place_before n j R.inside h (omega arith))
        ∙ get_or-set_other ring n (place_of n j) t 0 (place_other n j R.inside h (omega arith))
        ∙ R.kept j h (omega arith)
        ∙ sym (ap (at (ts ++ (t ∷ []))) (let z : length (ts ++ (t ∷ [])) - k ≡ length ts - j = omega (arith, one_longer ts t) in z)
        ∙ get_or-append ts (t ∷ []) 0 (length ts - j) (omega (arith, R.some)))

    kept : (k : ℕ) → 1 ≤ k → k ≤ min (held + 1) 65536 → get_or (set ring n t) (place_of (next_place n) k) 0 ≡ at (ts ++ (t ∷ [])) (length (ts ++ (t ∷ [])) - k)
    kept k h l = elim (ℕ_discrete k 1) [
      | yes e ↦ ap (λ (i : ℕ). get_or (set ring n t) (place_of (next_place n) i) 0) e ∙ ap (λ (i : ℕ). get_or (set ring n t) i 0) (place_last n R.inside)
          ∙ get_or-set_same ring n t 0 (omega (arith, R.inside, R.room))
          ∙ sym (ap (at (ts ++ (t ∷ []))) (let z : length (ts ++ (t ∷ [])) - k ≡ length ts = omega (arith, one_longer ts t) in z) ∙ get_or-append_seam ts t [] 0)
      | no d ↦ older k (k - 1) (omega arith) (omega arith) (omega arith)
    ]

pub ring_none : (ring : List ℕ) → length ring ≡ 65536 → Ring ring 0 0 []
ring_none ring e = record { room = e; inside = omega arith; some = refl; kept = λ k h l. absurd (omega arith) }

pub holds_none : (w : ℕ) (ring : List ℕ) → length ring ≡ 65536 → Holds w ring no_ticks []
holds_none w ring e = record { ticks = ring_none ring e; least = omega arith; none = λ h. (refl, refl); found = λ h. absurd (omega arith) }

module _ {w : ℕ} {ring : List ℕ} {r : Recent} {ts : List ℕ} (H : Holds w ring r ts) where
  pub held_none : r.held ≡ 0 → length ts ≡ 0
  held_none h = omega (arith, H.ticks.some)

  -- where the ring holds a tick, it holds as many as the busiest window has breaks
  module _ (e : r.held ≡ 0 → ⊥) where
    pub held_some : 1 ≤ length ts
    held_some = omega (arith, e, H.ticks.some)

    count_held : (1 ≤ r.count) × (r.count ≤ r.held)
    count_held = let F = H.found held_some in (F.some, omega (arith, F.passed, H.least, H.ticks.some))

    pub last_inside : {p : ℕ} → p ≡ place_of r.next 1 → p < 65536
    last_inside q = omega (arith, q, place_inside r.next 1 H.ticks.inside (omega arith) (omega arith))

    pub start_inside : {p : ℕ} → p ≡ place_of r.next r.count → p < 65536
    start_inside q = omega (arith, q, place_inside r.next r.count H.ticks.inside count_held.0 H.least)

    -- the last tick, and the tick that the window begins at
    last_held : {p : ℕ} → p ≡ place_of r.next 1 → get_or ring p 0 ≡ at ts (length ts - 1)
    last_held q = ap (λ (i : ℕ). get_or ring i 0) q ∙ H.ticks.kept 1 (omega arith) (omega (arith, count_held.0, count_held.1))

    pub last_below : {p t : ℕ} → p ≡ place_of r.next 1 → t < get_or ring p 0 → t < at ts (length ts - 1)
    last_below q l = omega (arith, l, last_held q)

    pub last_above : {p t : ℕ} → p ≡ place_of r.next 1 → get_or ring p 0 ≤ t → at ts (length ts - 1) ≤ t
    last_above q l = omega (arith, l, last_held q)

    pub start_held : {p : ℕ} → p ≡ place_of r.next r.count → get_or ring p 0 ≡ at ts (length ts - r.count)
    start_held q = ap (λ (i : ℕ). get_or ring i 0) q ∙ H.ticks.kept r.count count_held.0 count_held.1

    pub start_window : (t : ℕ) {p : ℕ} {b : Bool} → p ≡ place_of r.next r.count → in_window w (get_or ring p 0) t ≡ b → in_window w (at ts (length ts - r.count)) t ≡ b
    start_window t q l = ap (λ (i : ℕ). in_window w i t) (sym (start_held q)) ∙ l

-- what is held after a tick more
module _ (w : ℕ) {ring ring' : List ℕ} {r r' : Recent} (ts : List ℕ) (t : ℕ) (H : Holds w ring r ts) (R : Ring ring' r'.next r'.held (ts ++ (t ∷ []))) where
  held_with : {m f : ℕ} → Found w (ts ++ (t ∷ [])) (length (ts ++ (t ∷ []))) m f → m ≤ 65536 → r'.count ≡ m → r'.first ≡ f → Holds w ring' r' (ts ++ (t ∷ []))
  held_with F l a b = record { ticks = R; least = omega arith; none = λ h. absurd (omega (arith, one_longer ts t)); found = λ h. rw (a, b) F }

  pub held_first : 1 ≤ w → r.held ≡ 0 → r'.count ≡ 1 → r'.first ≡ t → Holds w ring' r' (ts ++ (t ∷ []))
  held_first h e a b = held_with (found_first w ts t h (held_none H e)) (omega arith) a b

  module _ (h : 1 ≤ length ts) (l : at ts (length ts - 1) ≤ t) where
    pub held_same : in_window w (at ts (length ts - r.count)) t ≡ false → r'.count ≡ r.count → r'.first ≡ r.first → Holds w ring' r' (ts ++ (t ∷ []))
    held_same e a b = held_with (found_end_same w ts t _ _ (H.found h) l e) H.least a b

    pub held_grown : in_window w (at ts (length ts - r.count)) t ≡ true → r.count < 65536 → r'.count ≡ r.count + 1 → r'.first ≡ at ts (length ts - r.count) →
        Holds w ring' r' (ts ++ (t ∷ []))
    held_grown e g a b = held_with (found_end_grown w ts t _ _ (H.found h) l e) (omega arith) a b

pub held_full : (w : ℕ) {ring : List ℕ} {r : Recent} (ts : List ℕ) (t : ℕ) → Holds w ring r ts → 1 ≤ length ts → at ts (length ts - 1) ≤ t →
    in_window w (at ts (length ts - r.count)) t ≡ true → r.count ≡ 65536 → 65536 < most_breaks w (ts ++ (t ∷ []))
held_full w {r = r} ts t H h l e g = omega (arith, most w (ts ++ (t ∷ [])) (r.count + 1) _ (found_end_grown w ts t _ _ (H.found h) l e))

-- what is held is the answer of the operation
pub held_answer : (w : ℕ) {ring : List ℕ} {r : Recent} (ts : List ℕ) → Holds w ring r ts → 1 ≤ w → busiest_of w ts ≡ done (counted r.count r.first)
held_answer w {r = r} ts H h = elim (ℕ_discrete (length ts) 0) [
  | yes e ↦ rw ((H.none e).0, (H.none e).1) (found_none w ts h e)
  | no d ↦ found_all w ts r.count r.first (H.found (omega arith)) h
]
