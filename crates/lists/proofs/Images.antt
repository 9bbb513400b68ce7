-- A loop that fills a list as far as another goes: each place with what a function makes of the element there.
use mathlib.Core.Path.{◌≡◌, refl, sym, ap, ap₂, ◌∙◌}
use mathlib.Core.List.{List, [], ◌∷◌, ◌++◌, map, map-append}
use Prim.Native.Nat.{ℕ, ◌+◌, ◌≤◌, ◌<◌}
use native.Mathlib.Omega.{arith}
use native.Mathlib.Numerals.{add-one}
use lib.ListN.{length, get_or, take, set, length-set}
use lib.Seq.{take_all, take-suc, take-suc-set}

-- the elements before one, and it
pub map_front : {A B : Type 0} (f : A → B) (xs : List A) (i : ℕ) (d : A) → i < length xs → map f (take (i + 1) xs) ≡ map f (take i xs) ++ (f (get_or xs i d) ∷ [])
map_front f xs i d h = ap (λ (n : ℕ). map f (take n xs)) (add-one i) ∙ ap (map f) (take-suc xs i d h) ∙ map-append f (take i xs) (get_or xs i d ∷ [])

-- l has w places, and those before i hold what f makes of the elements of xs
pub record Imaged {A B : Type 0} (f : A → B) (xs : List A) (w : ℕ) (l : List B) (i : ℕ) : Type 0 where
  pub long : length l ≡ w
  pub within : i ≤ length xs
  pub done : take i l ≡ map f (take i xs)

module _ {A B : Type 0} (f : A → B) (xs : List A) (w : ℕ) (l : List B) where
  pub imaged_none : length l ≡ w → Imaged f xs w l 0
  imaged_none h = record { long = h; within = omega arith; done = refl }

  module _ (i : ℕ) (I : Imaged f xs w l i) where
    pub imaged_more : (d : A) {v : B} → i < length xs → i < w → v ≡ f (get_or xs i d) → Imaged f xs w (set l i v) (i + 1)
    imaged_more d {v} h k e =
        record {
          long = length-set l i v ∙ I.long;
          within = omega arith;
          done =
              ap (λ (n : ℕ). take n (set l i v)) (add-one i)
              ∙ take-suc-set l i v (omega (arith, I.long))
              ∙ ap₂ (λ (ys : List B) (y : B). ys ++ (y ∷ [])) I.done e
              ∙ sym (map_front f xs i d h);
        }

    pub imaged_all : length xs ≤ i → take (length xs) l ≡ map f xs
    imaged_all h = let e : length xs ≡ i = omega (arith, I.within) in ap (λ (n : ℕ). take n l) e ∙ I.done ∙ ap (map f) (take_all i xs h)
