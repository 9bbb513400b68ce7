-- The first place of a list that passes a test, and the index of an element.
use mathlib.Core.Path.{◌≡◌, refl, sym, ap, ◌∙◌}
use mathlib.Core.Bool.{Bool, true, false, cond, ◌||◌}
use mathlib.Core.Logic.{⊎_elim}
use mathlib.Core.List.Memᴰ.{cases_cons}
use mathlib.Core.List.Memᴰ.{cast}
use mathlib.Core.List.Memᴰ.{head as here}
use mathlib.Core.List.Memᴰ.{tail as there}
use mathlib.Core.List.{List, [], ◌∷◌, ◌++◌, map, Memᴰ as Mem}
use Prim.Native.Nat.{ℕ, zero, suc, ◌+◌, ◌≤◌, ◌<◌}
use native.Mathlib.Omega.{arith}
use borrow.Author.Tests.{lt-ltb, le-ltb}
use lib.Dec.{ltb}
use lib.ListN.{length, get_or, length-append}
use Rattle.lists.specs.Lists.{keep, any, concat, position, ascending}
use Rattle.lists.proofs.Bools.{clash}
use Rattle.lists.proofs.Lists.{get_d_mem, any_by, keep_none}
use Rattle.lists.proofs.Ascending.{ascending_above, ascending_tail}
use Rattle.lists.proofs.Once.{Once}

-- position: the first place that passes
module _ {A : Type 0} (p : A → Bool) where
  pub position_lt : (xs : List A) → any p xs ≡ true → position p xs < length xs
  unfolding any position
  position_lt [] h = clash h refl
  position_lt (x ∷ xs) h = go (p x) (λ k. position_lt xs k) h
    where
      go : (b : Bool) → (any p xs ≡ true → position p xs < length xs) → (b || any p xs) ≡ true → cond b 0 (suc (position p xs)) < suc (length xs)
      go true f k = omega arith
      go false f k = omega (arith, f k)

  pub position_le : (xs : List A) → position p xs ≤ length xs
  unfolding position
  position_le [] = omega arith
  position_le (x ∷ xs) = go (p x) (position_le xs)
    where
      go : (b : Bool) → position p xs ≤ length xs → cond b 0 (suc (position p xs)) ≤ suc (length xs)
      go true h = omega arith
      go false h = omega arith

  pub position_at : (xs : List A) (d : A) → any p xs ≡ true → p (get_or xs (position p xs) d) ≡ true
  unfolding any position
  position_at [] d h = clash h refl
  position_at (x ∷ xs) d h = go (p x) refl (λ k. position_at xs d k) h
    where
      go : (b : Bool) → p x ≡ b → (any p xs ≡ true → p (get_or xs (position p xs) d) ≡ true) → (b || any p xs) ≡ true → p (get_or (x ∷ xs) (cond b 0 (suc (position p xs))) d) ≡ true
      go true e f k = e
      go false e f k = f k

  -- none before it passes
  pub position_first : (xs : List A) (d : A) (j : ℕ) → j < position p xs → p (get_or xs j d) ≡ false
  unfolding position
  position_first [] d j h = absurd (omega arith)
  position_first (x ∷ xs) d zero h = go (p x) refl h
    where
      go : (b : Bool) → p x ≡ b → 0 < cond b 0 (suc (position p xs)) → p x ≡ false
      go true e k = absurd (omega arith)
      go false e k = e
  position_first (x ∷ xs) d (suc j) h = go (p x) (λ k. position_first xs d j k) h
    where
      go : (b : Bool) → (j < position p xs → p (get_or xs j d) ≡ false) → suc j < cond b 0 (suc (position p xs)) → p (get_or xs j d) ≡ false
      go true f k = absurd (omega arith)
      go false f k = f (omega arith)

  -- an element that alone passes stands at its position
  pub position_of : {xs : List A} {x : A} (d : A) → Mem x xs → p x ≡ true → ((y : A) → p y ≡ true → y ≡ x) → get_or xs (position p xs) d ≡ x
  position_of {xs} d m e f = f _ (position_at xs d (any_by p m e))

  -- in a list without repetition an element's position is its place
  pub position_get_d : (xs : List A) (d : A) (i : ℕ) → Once xs → i < length xs → p (get_or xs i d) ≡ true → ((y : A) → p y ≡ true → y ≡ get_or xs i d) → position p xs ≡ i
  unfolding position
  position_get_d [] d i o h e f = absurd (omega arith)
  position_get_d (x ∷ xs) d zero o h e f = rw e
  position_get_d (x ∷ xs) d (suc i) o h e f = go (p x) refl (position_get_d xs d i o.1 (omega arith) e f)
    where
      go : (b : Bool) → p x ≡ b → position p xs ≡ i → cond b 0 (suc (position p xs)) ≡ suc i
      go true q k = absurd (o.0 (cast (f x q) (get_d_mem xs i d (omega arith))))
      go false q k = ap suc k

-- the index of an element, by a test for equality
module _ {A : Type 0} (same : A → A → Bool) (equal : (x y : A) → same x y ≡ true → x ≡ y) (itself : (x : A) → same x x ≡ true) where
  pub index_lt : {x : A} {xs : List A} → Mem x xs → position (same x) xs < length xs
  index_lt {x} {xs} m = position_lt (same x) xs (any_by (same x) m (itself x))

  pub index_at : {x : A} {xs : List A} (d : A) → Mem x xs → get_or xs (position (same x) xs) d ≡ x
  index_at {x} {xs} d m = position_of (same x) d m (itself x) (λ y e. sym (equal x y e))

  pub index_injective : {x y : A} {xs : List A} → Mem x xs → Mem y xs → position (same x) xs ≡ position (same y) xs → x ≡ y
  index_injective {x} {y} {xs} m n e = sym (index_at x m) ∙ ap (λ (i : ℕ). get_or xs i x) e ∙ index_at x n

  pub index_of : (xs : List A) (d : A) (i : ℕ) → Once xs → i < length xs → position (same (get_or xs i d)) xs ≡ i
  index_of xs d i o h = position_get_d (same (get_or xs i d)) xs d i o h (itself _) (λ y e. sym (equal _ y e))

-- position in two lists, one after the other
module _ {A : Type 0} (p : A → Bool) where
  pub position_left : (xs ys : List A) → any p xs ≡ true → position p (xs ++ ys) ≡ position p xs
  unfolding any position
  position_left [] ys h = clash h refl
  position_left (x ∷ xs) ys h = go (p x) (λ k. position_left xs ys k) h
    where
      go : (b : Bool) → (any p xs ≡ true → position p (xs ++ ys) ≡ position p xs) → (b || any p xs) ≡ true → cond b 0 (suc (position p (xs ++ ys))) ≡ cond b 0 (suc (position p xs))
      go true f k = refl
      go false f k = ap suc (f k)

  pub position_right : (xs ys : List A) → any p xs ≡ false → position p (xs ++ ys) ≡ length xs + position p ys
  unfolding any position
  position_right [] ys h = omega arith
  position_right (x ∷ xs) ys h = go (p x) (λ k. position_right xs ys k) h
    where
      go : (b : Bool) → (any p xs ≡ false → position p (xs ++ ys) ≡ length xs + position p ys) → (b || any p xs) ≡ false →
          cond b 0 (suc (position p (xs ++ ys))) ≡ suc (length xs) + position p ys
      go true f k = clash refl k
      go false f k = omega (arith, f k)

pub position_map : {A B : Type 0} (p : B → Bool) (f : A → B) (xs : List A) → position p (map f xs) ≡ position (λ x. p (f x)) xs
unfolding position
position_map p f [] = refl
position_map p f (x ∷ xs) = ap (λ (n : ℕ). cond (p (f x)) 0 (suc n)) (position_map p f xs)

-- position in lists one after the other, in the order of numbers: past those of smaller numbers
pub position_concat : {A : Type 0} (p : A → Bool) (f : ℕ → List A) (xs : List ℕ) {x : ℕ} → ascending xs ≡ true → Mem x xs →
    ((y : ℕ) → Mem y xs → y < x → any p (f y) ≡ false) → any p (f x) ≡ true →
    position p (concat f xs) ≡ length (concat f (keep (λ y. ltb y x) xs)) + position p (f x)
unfolding concat keep
position_concat p f (y ∷ ys) {x} o (here e) g h =
    let none : keep (λ z. ltb z x) (y ∷ ys) ≡ [] = keep_none (λ z. ltb z x) (y ∷ ys)
    (λ z n. le-ltb z x (⊎_elim (λ q. omega arith) (λ k. omega (arith, ascending_above y ys o k)) (cases_cons n))) in
    let past : length (concat f (keep (λ z. ltb z x) (y ∷ ys))) ≡ 0 = ap (λ (l : List ℕ). length (concat f l)) none in
    let found : position p (f y ++ concat f ys) ≡ position p (f x) = position_left p (f y) (concat f ys) (ap (λ (z : ℕ). any p (f z)) (sym e) ∙ h)
    ∙ ap (λ (z : ℕ). position p (f z)) (sym e) in
    found ∙ omega arith
position_concat p f (y ∷ ys) {x} o (there m) g h =
    let l = ascending_above y ys o m in
    let rest = position_concat p f ys (ascending_tail y ys o) m (λ z n k. g z (there n) k) h in
    rw (lt-ltb y x l) (position_right p (f y) (concat f ys) (g y (here refl) l) ∙ omega (arith, rest, length-append (f y) (concat f (keep (λ z. ltb z x) ys))))
position_concat p f [] o m g h = elim m [ ]

pub position_end : {A : Type 0} (p : A → Bool) {rest : List A} → rest ≡ [] → position p rest ≡ 0
unfolding position
position_end p e = rw e

-- an element is found
pub position_some : {A : Type 0} (p : A → Bool) (xs : List A) → position p xs < length xs → any p xs ≡ true
unfolding position any
position_some p [] h = absurd (omega arith)
position_some p (x ∷ xs) h = go (p x) (position_some p xs) h
  where
    go : (b : Bool) → (position p xs < length xs → any p xs ≡ true) → cond b 0 (suc (position p xs)) < suc (length xs) → (b || any p xs) ≡ true
    go true f k = refl
    go false f k = f (omega arith)
