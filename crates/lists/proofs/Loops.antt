-- Loops over the places of a list: one that fills it, and one that tests what is left of it.
use mathlib.Core.Path.{◌≡◌, refl, sym, ap, ◌∙◌}
use mathlib.Core.Bool.{Bool, true, false, ◌&&◌}
use mathlib.Core.List.{List, [], ◌∷◌, ◌++◌, append_assoc}
use Prim.Native.Nat.{ℕ, ◌+◌, ◌≤◌, ◌<◌, suc, ◌-◌}
use native.Mathlib.Omega.{arith}
use native.Mathlib.Decide.{ℕ_discrete}
use native.Mathlib.Numerals.{add-one}
use lib.ListN.{length, get_or, take, drop, set, length-set, drop_of_length-le, replicate, length-append}
use lib.Seq.{take_all, take-suc, take-suc-set, drop-cons, set-append_seam, get_or-set_same, get_or-set_other}
use Rattle.lists.specs.Lists.{all, padded}

-- one more element of a list that has those of `whole` in front
pub front_more :
    {A : Type 0} (whole l : List A) (i : ℕ) (d v : A) → take i l ≡ take i whole → i < length l → i < length whole →
    v ≡ get_or whole i d → take (i + 1) (set l i v) ≡ take (i + 1) whole
front_more whole l i d v f h k e = rw (add-one, take-suc-set l i v h, f, e) (sym (take-suc whole i d k))

-- a list all of whose elements stand in front of another
pub front_all : {A : Type 0} (whole l : List A) (i k : ℕ) → take i l ≡ take i whole → length whole ≡ k → i ≤ k → k ≤ i → take k l ≡ whole
front_all whole l i k f e h g = ap (λ (j : ℕ). take j l) (let z : k ≡ i = omega arith in z) ∙ f ∙ take_all i whole (omega arith)

-- l has n elements as `whole` has, and those before i are the same
pub record Filled {A : Type 0} (n : ℕ) (whole l : List A) (i : ℕ) : Type 0 where
  pub size : length whole ≡ n
  pub long : length l ≡ n
  pub done : take i l ≡ take i whole

module _ {A : Type 0} (n : ℕ) (whole l : List A) where
  pub filled_none : length whole ≡ n → length l ≡ n → Filled n whole l 0
  filled_none e h = record { size = e; long = h; done = refl }

  module _ (i : ℕ) (F : Filled n whole l i) where
    pub filled_more : (d v : A) → i < n → v ≡ get_or whole i d → Filled n whole (set l i v) (i + 1)
    filled_more d v h e =
        record {
          size = F.size;
          long = length-set l i v ∙ F.long;
          done = front_more whole l i d v F.done (omega (arith, F.long)) (omega (arith, F.size)) e;
        }

    pub filled_all : n ≤ i → l ≡ whole
    filled_all h = sym (take_all i l (omega (arith, F.long))) ∙ F.done ∙ take_all i whole (omega (arith, F.size))

-- xs has n elements, and all from `first` on pass where all from i on do
pub record Passed {A : Type 0} (p : A → Bool) (n : ℕ) (xs : List A) (first i : ℕ) : Type 0 where
  pub long : length xs ≡ n
  pub left : all p (drop first xs) ≡ all p (drop i xs)

module _ {A : Type 0} (p : A → Bool) (n : ℕ) (xs : List A) (first : ℕ) where
  pub passed_none : length xs ≡ n → Passed p n xs first first
  passed_none e = record { long = e; left = refl }

  module _ (i : ℕ) (P : Passed p n xs first i) where
    step : (d : A) → i < n → all p (drop i xs) ≡ (p (get_or xs i d) && all p (drop (i + 1) xs))
    unfolding all
    step d h = rw (add-one, drop-cons xs i d (omega (arith, P.long)))

    pub passed_more : (d : A) → i < n → p (get_or xs i d) ≡ true → Passed p n xs first (i + 1)
    passed_more d h e = record { long = P.long; left = P.left ∙ step d h ∙ rw e }

    pub passed_not : (d : A) → i < n → p (get_or xs i d) ≡ false → all p (drop first xs) ≡ false
    passed_not d h e = P.left ∙ step d h ∙ rw e

    pub passed_all : n ≤ i → all p (drop first xs) ≡ true
    unfolding all
    passed_all h = P.left ∙ ap (all p) (drop_of_length-le xs {i = i} (omega (arith, P.long)))

-- the table that the loop fills
pub padded_more : {A : Type 0} (w : ℕ) (d : A) (l : List A) (v : A) {i : ℕ} → length l ≡ i → i < w → set (padded w d l) i v ≡ padded w d (l ++ (v ∷ []))
unfolding padded
padded_more {A} w d l v {i} e h =
    ap (λ (k : ℕ). set (l ++ replicate k d) i v) (let z : w - length l ≡ suc (w - (i + 1)) = omega arith in z)
    ∙ ap (λ (k : ℕ). set (l ++ (d ∷ replicate (w - (i + 1)) d)) k v) (sym e)
    ∙ set-append_seam l d (replicate (w - (i + 1)) d) v
    ∙ sym (append_assoc l (v ∷ []) (replicate (w - (i + 1)) d))
    ∙ ap (λ (k : ℕ). (l ++ (v ∷ [])) ++ replicate k d) (let z : w - (i + 1) ≡ w - length (l ++ (v ∷ [])) = omega (arith, length-append l (v ∷ [])) in z)

-- the elements before n that lie below m are f's
abbrev pub FilledTo : ℕ → (ℕ → ℕ) → List ℕ → ℕ → Type 0
FilledTo m f l n = (i : ℕ) → i < n → i < m → get_or l i 0 ≡ f i

module _ (m : ℕ) (f : ℕ → ℕ) (l : List ℕ) where
  pub filled_to_none : FilledTo m f l 0
  filled_to_none i h k = absurd (omega arith)

  pub filled_to_more : (n v : ℕ) → FilledTo m f l n → n < length l → (n < m → v ≡ f n) → FilledTo m f (set l n v) (n + 1)
  filled_to_more n v F h e i k j = elim (ℕ_discrete i n) [
    | yes q ↦ ap (λ (x : ℕ). get_or (set l n v) x 0) q ∙ get_or-set_same l n v 0 h ∙ e (omega arith) ∙ ap f (sym q)
    | no q ↦ get_or-set_other l n i v 0 q ∙ F i (omega arith) j
  ]

-- the same, in a list of w elements
pub record FilledAmong (w m : ℕ) (f : ℕ → ℕ) (l : List ℕ) (n : ℕ) : Type 0 where
  pub long : length l ≡ w
  pub filled : FilledTo m f l n

pub filled_among_none : (w m : ℕ) (f : ℕ → ℕ) (l : List ℕ) → length l ≡ w → FilledAmong w m f l 0
filled_among_none w m f l e = record { long = e; filled = filled_to_none m f l }

pub filled_among_more : {w m : ℕ} {f : ℕ → ℕ} {l : List ℕ} {n v : ℕ} → FilledAmong w m f l n → n < w → (n < m → v ≡ f n)
    → FilledAmong w m f (set l n v) (n + 1)
filled_among_more {w} {m} {f} {l} {n} {v} F h e =
    record { long = length-set l n v ∙ F.long; filled = filled_to_more m f l n v F.filled (omega (arith, F.long)) e }
