-- An array that is filled with the values of a function at 0, 1, ..: by calls of a closure, or by a loop as far as it goes.
use mathlib.Core.Path.{◌≡◌, refl, sym, ap, ◌∙◌, subst}
use mathlib.Core.List.{List, ◌∷◌, map}
use Prim.Native.Nat.{ℕ, zero, suc, ◌+◌, ◌≤◌, ◌<◌}
use native.Mathlib.Omega.{arith}
use native.Mathlib.Numerals.{add-one}
use denote.Param.Members.{Mut, Called}
use lib.ListN.{length, get_or, take, set, length-map, length-set}
use lib.Seq.{take_all, take-suc, take-suc-set}
use Rattle.std.specs.Array.{IsFromFnResultFrom, IsFromFnResult}
use Rattle.std.specs.List.{range_with_len}
use Rattle.std.proofs.lemmas.List.FromFn.{fill_by_all}
use Rattle.lists.specs.Lists.{range, below}
use Rattle.lists.proofs.Below.{length_below, get_d_mapped}

ranged : (a n : ℕ) → range_with_len a n ≡ range a n
unfolding range
ranged a zero = refl
ranged a (suc n) = ap (λ (l : List ℕ). a ∷ l) (ranged (a + 1) n ∙ ap (λ (b : ℕ). range b n) (add-one a))

-- by a closure that answers the function's value and stays as it is
module _ {F B : Type 0} (g : Mut F (ℕ × Unit {0}) B) (h : ℕ → B) (f : F) (calls : (i : ℕ) (y : B) (q : F) → Called g f (i, tt) y q → (y ≡ h i) × (q ≡ f)) where
  made_at : (ys : List B) (d : B) (n i : ℕ) → IsFromFnResultFrom g f ys i n → (k : ℕ) → k < n → get_or ys (i + k) d ≡ h (i + k)
  made_at ys d zero i R k l = absurd (omega arith)
  made_at ys d (suc n) i R zero l =
      let here : i + 0 ≡ i = omega arith in
      ap (λ (j : ℕ). get_or ys j d) here ∙ R.2.1 d ∙ (calls i R.1 R.0 R.3).0 ∙ sym (ap h here)
  made_at ys d (suc n) i R (suc k) l =
      let next : i + suc k ≡ i + 1 + k = omega arith in
      let rest : IsFromFnResultFrom g f ys (i + 1) n = subst (λ (q : F). IsFromFnResultFrom g q ys (i + 1) n) (calls i R.1 R.0 R.3).1 R.4 in
      ap (λ (j : ℕ). get_or ys j d) next ∙ made_at ys d n (i + 1) rest k (omega arith) ∙ sym (ap h next)

  pub made_by : (d : B) (ys : List B) (n : ℕ) → IsFromFnResult g f ys n → ys ≡ map h (below n)
  unfolding below
  made_by d ys n R =
      fill_by_all h ys n d R.long (λ k l. let z : 0 + k ≡ k = omega arith in sym (ap (λ (j : ℕ). get_or ys j d) z) ∙ made_at ys d n 0 R.each k l ∙ ap h z)
      ∙ ap (map h) (ranged 0 n)

-- l, of so many elements, begins with the values of f at 0, .., i - 1, and has room for n
pub record Begun {A : Type 0} (size n : ℕ) (f : ℕ → A) (l : List A) (i : ℕ) : Type 0 where
  pub within : i ≤ n
  pub room : n ≤ size
  pub long : length l ≡ size
  pub done : take i l ≡ take i (map f (below n))

module _ {A : Type 0} (size n : ℕ) (f : ℕ → A) (l : List A) where
  whole : length (map f (below n)) ≡ n
  whole = length-map (below n) f ∙ length_below n

  pub begun_none : n ≤ size → length l ≡ size → Begun size n f l 0
  begun_none h e = record { within = omega arith; room = h; long = e; done = refl }

  module _ (i : ℕ) (B : Begun size n f l i) where
    pub begun_more : (d v : A) → i < n → v ≡ f i → Begun size n f (set l i v) (i + 1)
    begun_more d v h e =
        record {
          within = omega arith;
          room = B.room;
          long = length-set l i v ∙ B.long;
          done = rw (add-one, take-suc-set l i v (omega (arith, B.room, B.long)), B.done, e) (sym (take-suc (map f (below n)) i d (omega (arith, whole)) ∙ rw (get_d_mapped f n i d h)));
        }

    pub begun_all : n ≤ i → take n l ≡ map f (below n)
    begun_all h = let z : n ≡ i = omega (arith, B.within) in
        ap (λ m. take m l) z ∙ B.done ∙ take_all i (map f (below n)) (omega (arith, whole))
