-- Windows: what `most_breaks` and `first_with` say. No window has more breaks, wherever it begins; the windows that begin at a break
-- suffice; and in a list that climbs the breaks of a window stand one after the other.
use mathlib.Core.Path.{◌≡◌, refl, sym, ap, ◌∙◌, subst}
use mathlib.Core.Bool.{Bool, true, false, ◌&&◌}
use mathlib.Core.Logic.{◌⊎◌, inl, inr, ⊎_elim}
use mathlib.Core.List.Memᴰ.{cases_cons}
use mathlib.Core.List.Memᴰ.{head as here}
use mathlib.Core.List.Memᴰ.{tail as there}
use mathlib.Core.List.{List, [], ◌∷◌, map, Memᴰ as Mem}
use Prim.Native.Nat.{ℕ, zero, suc, ◌+◌, ◌-◌, ◌≤◌, ◌<◌}
use native.Mathlib.Omega.{arith}
use native.Mathlib.Decide.{ℕ_discrete}
use borrow.Author.Tests.{le-leb, leb-true, leb-false, lt-leb, lt-ltb, ltb-true, ltb-false, eqb-true, eq-eqb}
use lib.Dec.{leb, ltb, eqb}
use lib.ListN.{length}
use Rattle.lists.specs.Lists.{keep, elem}
use Rattle.lists.proofs.Bools.{and_l, and_r, both, clash, decided, cond_yes, cond_no, fails, same}
use Rattle.lists.proofs.Lists.{keep_none, keep_next, keep_left, keep_more, elem_at, elem_by}
use Rattle.break_windows.specs.Breaks.{in_window, within, greatest, greatest_of, most_breaks, most_at_breaks, first_of, first_with, answered, busiest_of, busiest_at_breaks, climbs}
use Rattle.break_windows.specs.Found.{at}
use Rattle.break_windows.proofs.Climbing.{climbs_tail, climbs_above, rank, rank_more, rank_same}

-- the greatest value of a function below a number, and of a list
pub greatest_above : (f : ℕ → ℕ) (n i : ℕ) → i < n → f i ≤ greatest f n
unfolding greatest
greatest_above f zero i h = absurd (omega arith)
greatest_above f (suc n) i h = elim (ℕ_discrete i n) [
  | yes e ↦ let q : f i ≡ f n = ap f e in omega (arith, q)
  | no d ↦ omega (arith, greatest_above f n i (omega arith))
]

pub greatest_most : (f : ℕ → ℕ) (n m : ℕ) → ((i : ℕ) → f i ≤ m) → greatest f n ≤ m
unfolding greatest
greatest_most f zero m h = omega arith
greatest_most f (suc n) m h = omega (arith, h n, greatest_most f n m h)

greatest_of_above : (xs : List ℕ) {x : ℕ} → Mem x xs → x ≤ greatest_of xs
unfolding greatest_of
greatest_of_above (y ∷ ys) (here e) = omega arith
greatest_of_above (y ∷ ys) (there m) = omega (arith, greatest_of_above ys m)
greatest_of_above [] m = elim m [ ]

greatest_of_image : (f : ℕ → ℕ) (xs : List ℕ) {x : ℕ} → Mem x xs → f x ≤ greatest_of (map f xs)
unfolding greatest_of
greatest_of_image f (y ∷ ys) {x} (here e) = let q : f x ≡ f y = ap f e in omega (arith, q)
greatest_of_image f (y ∷ ys) (there m) = omega (arith, greatest_of_image f ys m)
greatest_of_image f [] m = elim m [ ]

greatest_of_most : (f : ℕ → ℕ) (xs : List ℕ) (m : ℕ) → ((i : ℕ) → f i ≤ m) → greatest_of (map f xs) ≤ m
unfolding greatest_of
greatest_of_most f [] m h = omega arith
greatest_of_most f (x ∷ xs) m h = omega (arith, h x, greatest_of_most f xs m h)

greatest_of_at : (f : ℕ → ℕ) (xs : List ℕ) → 1 ≤ length xs → (x : ℕ) × Mem x xs × (f x ≡ greatest_of (map f xs))
unfolding greatest_of
greatest_of_at f [] h = absurd (omega arith)
greatest_of_at f (x ∷ []) h = (x, here refl, omega arith)
greatest_of_at f (x ∷ (y ∷ ys)) h =
    let r = greatest_of_at f (y ∷ ys) (omega arith) in
    let g = greatest_of (map f (y ∷ ys)) in
    ⊎_elim
    (λ e. (x, here refl, omega (arith, leb-true g (f x) e)))
    (λ e. (r.0, there r.1, omega (arith, r.2, leb-false g (f x) e)))
    (decided (leb g (f x)))

-- a tick is in a window
pub in_window_lem : (w s t : ℕ) → s ≤ t → t < s + w → in_window w s t ≡ true
unfolding in_window
in_window_lem w s t h k = both (le-leb s t h) (lt-ltb t (s + w) k)

pub window_in : (w s t : ℕ) → in_window w s t ≡ true → (s ≤ t) × (t < s + w)
unfolding in_window
window_in w s t h = (leb-true s t (and_l (leb s t) _ h), ltb-true t (s + w) (and_r (leb s t) _ h))

-- a window is told by the tick's distance from its begin
pub window_below : (w s t : ℕ) → t < s → in_window w s t ≡ false
unfolding in_window
window_below w s t h = ap (λ (b : Bool). b && ltb t (s + w)) (lt-leb s t h)

pub window_by : (w s t : ℕ) → s ≤ t → in_window w s t ≡ ltb (t - s) w
unfolding in_window
window_by w s t h = ap (λ (b : Bool). b && ltb t (s + w)) (le-leb s t h)
    ∙ same (ltb t (s + w)) (ltb (t - s) w) (λ e. lt-ltb (t - s) w (omega (arith, ltb-true t (s + w) e))) (λ e. lt-ltb t (s + w) (omega (arith, ltb-true (t - s) w e)))

pub window_far : (w s t : ℕ) → in_window w s t ≡ false → s ≤ t → s + w ≤ t
window_far w s t e h = omega (arith, ltb-false (t - s) w (sym (window_by w s t h) ∙ e))

pub window_out : (w s t : ℕ) → (t < s) ⊎ (s + w ≤ t) → in_window w s t ≡ false
window_out w s t h = fails (in_window w s t) (λ e. let r = window_in w s t e in ⊎_elim (λ k. omega arith) (λ k. omega arith) h)

-- each break in a window counts there, whatever the others are: equal ticks are as many breaks
pub within_more : (w : ℕ) (ts : List ℕ) (s t : ℕ) → in_window w s t ≡ true → within w (t ∷ ts) s ≡ suc (within w ts s)
unfolding within
within_more w ts s t h = ap length (keep_next (in_window w s) refl h)

pub within_same : (w : ℕ) (ts : List ℕ) (s t : ℕ) → in_window w s t ≡ false → within w (t ∷ ts) s ≡ within w ts s
unfolding within
within_same w ts s t h = ap length (keep_left (in_window w s) refl h)

-- a window that begins after the last tick has no break
past_none : (w : ℕ) (ts : List ℕ) (s : ℕ) → greatest_of ts < s → within w ts s ≡ 0
unfolding within in_window
past_none w ts s h = ap length (keep_none (in_window w s) ts (λ t m. ap (λ (b : Bool). b && ltb t (s + w)) (lt-leb s t (omega (arith, greatest_of_above ts m)))))

-- no window has more breaks, wherever it begins
pub anywhere : (w : ℕ) (ts : List ℕ) (s : ℕ) → within w ts s ≤ most_breaks w ts
unfolding most_breaks
anywhere w ts s = ⊎_elim
    (λ e. omega (arith, past_none w ts s (ltb-true _ s e)))
    (λ e. greatest_above (within w ts) (suc (greatest_of ts)) s (omega (arith, ltb-false _ s e)))
    (decided (ltb (greatest_of ts) s))

-- a window that begins at no break has no more breaks than the next
next_more : (w : ℕ) (ts : List ℕ) (s : ℕ) → elem s ts ≡ false → within w ts s ≤ within w ts (suc s)
unfolding within
next_more w ts s h = keep_more (in_window w s) (in_window w (suc s)) ts (λ t m e. let r = window_in w s t e in in_window_lem w (suc s) t (above t m r.0) (omega arith))
  where
    above : (t : ℕ) → Mem t ts → s ≤ t → suc s ≤ t
    above t m l = elim (ℕ_discrete s t) [
      | yes e ↦ clash (elem_by s (subst (λ (x : ℕ). Mem x ts) (sym e) m)) h
      | no d ↦ omega arith
    ]

-- so some window that begins at a break has no fewer, within k ticks
from_break : (w : ℕ) (ts : List ℕ) (k s : ℕ) → greatest_of ts < s + k → within w ts s ≤ most_at_breaks w ts
unfolding most_at_breaks
from_break w ts zero s h = omega (arith, past_none w ts s (omega arith))
from_break w ts (suc k) s h = ⊎_elim
    (λ e. greatest_of_image (within w ts) ts (elem_at s ts e))
    (λ e. omega (arith, next_more w ts s e, from_break w ts k (suc s) (omega arith)))
    (decided (elem s ts))

-- windows that begin at a break suffice
pub breaks_suffice : (w : ℕ) (ts : List ℕ) → most_breaks w ts ≡ most_at_breaks w ts
unfolding most_breaks most_at_breaks
breaks_suffice w ts =
    let up : most_breaks w ts ≤ most_at_breaks w ts = greatest_most (within w ts) (suc (greatest_of ts)) (most_at_breaks w ts) (λ s. from_break w ts (suc (greatest_of ts)) s (omega arith)) in
    let down : most_at_breaks w ts ≤ most_breaks w ts = greatest_of_most (within w ts) ts (most_breaks w ts) (anywhere w ts) in
    omega (arith, up, down)

pub at_breaks : (w : ℕ) (ts : List ℕ) → busiest_of w ts ≡ busiest_at_breaks w ts
unfolding busiest_of busiest_at_breaks
at_breaks w ts = ap (λ (m : ℕ). answered m w ts) (breaks_suffice w ts)

-- the breaks of a window are those below its end that are not below its begin
pub within_ranks : (w : ℕ) (ts : List ℕ) (s : ℕ) → rank s ts + within w ts s ≡ rank (s + w) ts
unfolding within rank keep
within_ranks w [] s = refl
within_ranks w (t ∷ ts) s =
    let h = within_ranks w ts s in
    ⊎_elim
    (λ a. let l = ltb-true t s a in omega (arith, h, rank_more s t ts l, within_same w ts s t (window_out w s t (inl l)), rank_more (s + w) t ts (omega arith)))
    (λ a. ⊎_elim
    (λ b. let l = ltb-true t (s + w) b in omega (arith, h, rank_same s t ts (ltb-false t s a), within_more w ts s t (in_window_lem w s t (ltb-false t s a) l), rank_more (s + w) t ts l))
    (λ b. let l = ltb-false t (s + w) b in omega (arith, h, rank_same s t ts (ltb-false t s a), within_same w ts s t (window_out w s t (inr l)), rank_same (s + w) t ts l))
    (decided (ltb t (s + w))))
    (decided (ltb t s))

-- the first number that passes a test
pub first_at :
    (p : ℕ → Bool) (ts : List ℕ) (i : ℕ) → i < length ts → p (at ts i) ≡ true → ((k : ℕ) → k < i → p (at ts k) ≡ false) → first_of p ts ≡ at ts i
unfolding first_of
first_at p [] i h e f = absurd (omega arith)
first_at p (t ∷ ts) zero h e f = cond_yes t (first_of p ts) e
first_at p (t ∷ ts) (suc i) h e f = cond_no t (first_of p ts) (f 0 (omega arith)) ∙ first_at p ts i (omega arith) e (λ k l. f (suc k) (omega arith))

first_passes : (p : ℕ → Bool) (ts : List ℕ) {t : ℕ} → Mem t ts → p t ≡ true → Mem (first_of p ts) ts × (p (first_of p ts) ≡ true)
unfolding first_of
first_passes p (x ∷ xs) {t} m h = ⊎_elim
    (λ e. rw e (here refl, e))
    (λ e. rw e (⊎_elim (λ q. clash (ap p (sym q) ∙ h) e) (λ n. let r = first_passes p xs n h in (there r.0, r.1)) (cases_cons m)))
    (decided (p x))
first_passes p [] {t = t} m h = elim m [ ]

first_least : (p : ℕ → Bool) (ts : List ℕ) → climbs ts ≡ true → {t : ℕ} → Mem t ts → p t ≡ true → first_of p ts ≤ t
unfolding first_of
first_least p (x ∷ xs) c {t} m h = ⊎_elim
    (λ e. rw e (⊎_elim (λ q. omega arith) (λ n. climbs_above x xs c n) (cases_cons m)))
    (λ e. rw e (⊎_elim (λ q. clash (ap p (sym q) ∙ h) e) (λ n. first_least p xs (climbs_tail x xs c) n h) (cases_cons m)))
    (decided (p x))
first_least p [] c {t = t} m h = elim m [ ]

-- where there is a break, the window that is answered begins at one, and has the most breaks
pub first_begins : (w : ℕ) (ts : List ℕ) → 1 ≤ length ts → Mem (first_with (most_breaks w ts) w ts) ts × (within w ts (first_with (most_breaks w ts) w ts) ≡ most_breaks w ts)
unfolding first_with most_at_breaks
first_begins w ts h =
    let t = greatest_of_at (within w ts) ts h in
    let r = first_passes (λ s. eqb (within w ts s) (most_breaks w ts)) ts t.1 (eq-eqb _ _ (t.2 ∙ sym (breaks_suffice w ts))) in
    (r.0, eqb-true _ _ r.1)

-- no window that has as many and begins at a break is earlier
pub first_earliest : (w : ℕ) (ts : List ℕ) → climbs ts ≡ true → (s : ℕ) → Mem s ts → within w ts s ≡ most_breaks w ts → first_with (most_breaks w ts) w ts ≤ s
unfolding first_with
first_earliest w ts c s m e = first_least (λ t. eqb (within w ts t) (most_breaks w ts)) ts c m (eq-eqb _ _ e)
