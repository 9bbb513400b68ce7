-- Parts of a list: from a place on, and between two places.
use mathlib.Core.Path.{◌≡◌, refl, sym, ap, ◌∙◌}
use mathlib.Core.List.{List, [], ◌∷◌, ◌++◌}
use Prim.Native.Nat.{ℕ, ◌+◌, ◌-◌, ◌≤◌, ◌<◌, zero, suc}
use native.Mathlib.Omega.{arith}
use lib.ListN.{length, take, drop, length-take, length-drop, get_or, drop_of_length-le, take-append-drop}
use native.Mathlib.Numerals.{add-one}
use lib.Seq.{drop-cons, get_or-take, length-take-le}

-- what a loop over a list, or over its first n, has left to see at the place i
pub drop_next : {A : Type 0} (l : List A) (i : ℕ) (d : A) → i < length l → drop i l ≡ get_or l i d ∷ drop (i + 1) l
drop_next l i d h = rw add-one (drop-cons l i d h)

module _ {A : Type 0} (l : List A) (n : ℕ) (k : n ≤ length l) (i : ℕ) where
  pub taken_next : (d : A) → i < n → drop i (take n l) ≡ get_or l i d ∷ drop (i + 1) (take n l)
  taken_next d h = drop_next (take n l) i d (omega (arith, length-take-le n l k)) ∙ ap (λ (x : A). x ∷ drop (i + 1) (take n l)) (get_or-take n l i d h)

  pub taken_end : n ≤ i → drop i (take n l) ≡ []
  taken_end h = let z : length (take n l) ≤ i = omega (arith, length-take-le n l k) in drop_of_length-le (take n l) z

  pub taken_left : n - i ≡ length (drop i (take n l))
  taken_left = omega (arith, length-drop i (take n l), length-take-le n l k)

-- what ends within the part of a list from a place on ends within the list
pub part_end : (s : List ℕ) (a : ℕ) {e n : ℕ} → a ≤ length s → e ≡ n → e ≤ length (take (length s - a) (drop a s)) → a + n ≤ length s
part_end s a h q l = omega (arith, length-take (length s - a) (drop a s), length-drop a s)

-- the length of the part between two places
pub part_length : (s : List ℕ) (from to : ℕ) → from ≤ to → to ≤ length s → to - from ≡ length (take (to - from) (drop from s))
part_length s from to h k = simp (length-take, length-drop) (omega arith)

-- a part of a list, from a place on, and what follows it
pub part_front : {A : Type 0} (l : List A) (n b : ℕ) → (zs : List A) × (drop b l ≡ drop b (take n l) ++ zs)
part_front l n zero = (drop n l, sym (take-append-drop n l))
part_front [] zero (suc b) = ([], refl)
part_front [] (suc n) (suc b) = ([], refl)
part_front (x ∷ l) zero (suc b) = (drop b l, refl)
part_front (x ∷ l) (suc n) (suc b) = part_front l n b
