-- Laws of the sums of choices, and of lists in order, by membership.
use mathlib.Core.Path.{◌≡◌, refl, ◌∙◌}
use mathlib.Core.Bool.{Bool, true, false}
use mathlib.Core.Logic.{◌⊎◌, inl, inr, ⊎_elim}
use mathlib.Core.List.Memᴰ.{cases_cons}
use mathlib.Core.List.Memᴰ.{head as here}
use mathlib.Core.List.Memᴰ.{not-nil}
use mathlib.Core.List.Memᴰ.{tail as there}
use mathlib.Core.List.{List, [], ◌∷◌, Memᴰ as Mem}
use Prim.Native.Nat.{ℕ, ◌+◌, ◌<◌}
use borrow.Author.Tests.{eqb-true, eqb-false, ltb-true, ltb-false}
use native.Mathlib.Omega.{arith}
use lib.Dec.{ltb, eqb}
use Rattle.lists.specs.Lists.{ascending}
use Rattle.lists.proofs.Concat.{concat_at, concat_by}
use Rattle.lists.proofs.Lists.{map_at, map_by}
use Rattle.lists.proofs.Ascending.{ascending_nil, ascending_cons, ascending_tail, ascending_above}
use Rattle.flattening.specs.Flatten.{sums, insert, sorted}

pub sums_at : (xs ys : List ℕ) {z : ℕ} → Mem z (sums xs ys) → (x : ℕ) × (y : ℕ) × Mem x xs × Mem y ys × (z ≡ x + y)
unfolding sums
sums_at xs ys m = let r = concat_at _ xs m in let k = map_at _ ys r.2 in (r.0, k.0, r.1, k.1, k.2)

pub sums_by : {xs ys : List ℕ} {x y : ℕ} → Mem x xs → Mem y ys → Mem (x + y) (sums xs ys)
unfolding sums
sums_by {x = x} m n = concat_by _ m (map_by (λ y. x + y) n)

-- one element inserted
pub insert_by : (x : ℕ) (ys : List ℕ) {z : ℕ} → (z ≡ x) ⊎ Mem z ys → Mem z (insert x ys)
unfolding insert
insert_by x [] (inl e) = here e
insert_by x [] (inr m) = absurd (not-nil m)
insert_by x (y ∷ ys) {z} k = go (eqb x y) (ltb x y) refl (λ n. insert_by x ys n) k
  where
    go : (a b : Bool) → eqb x y ≡ a → ((z ≡ x) ⊎ Mem z ys → Mem z (insert x ys)) → (z ≡ x) ⊎ Mem z (y ∷ ys) → Mem z (elim a [ true ↦ y ∷ ys | false ↦ elim b [ true ↦ x ∷ y ∷ ys | false ↦ y ∷ insert x ys ] ])
    go true b e f (inl q) = here (q ∙ eqb-true x y e)
    go true b e f (inr m) = m
    go false true e f (inl q) = here q
    go false true e f (inr m) = there m
    go false false e f (inl q) = there (f (inl q))
    go false false e f (inr m) = ⊎_elim (λ q. here q) (λ n. there (f (inr n))) (cases_cons m)

pub insert_at : (x : ℕ) (ys : List ℕ) {z : ℕ} → Mem z (insert x ys) → (z ≡ x) ⊎ Mem z ys
unfolding insert
insert_at x [] m = ⊎_elim (λ e. inl e) (λ n. inr n) (cases_cons m)
insert_at x (y ∷ ys) {z} m = go (eqb x y) (ltb x y) (λ n. insert_at x ys n) m
  where
    go : (a b : Bool) → (Mem z (insert x ys) → (z ≡ x) ⊎ Mem z ys) → Mem z (elim a [ true ↦ y ∷ ys | false ↦ elim b [ true ↦ x ∷ y ∷ ys | false ↦ y ∷ insert x ys ] ]) → (z ≡ x) ⊎ Mem z (y ∷ ys)
    go true b f n = inr n
    go false true f n = cases_cons n
    go false false f n = ⊎_elim (λ e. inr (here e)) (λ k. ⊎_elim (λ e. inl e) (λ j. inr (there j)) (f k)) (cases_cons n)

-- sorted: the same elements
pub sorted_by : (xs : List ℕ) {z : ℕ} → Mem z xs → Mem z (sorted xs)
unfolding sorted
sorted_by (x ∷ xs) (here e) = insert_by x (sorted xs) (inl e)
sorted_by (x ∷ xs) (there m) = insert_by x (sorted xs) (inr (sorted_by xs m))
sorted_by [] m = elim m [ ]

pub sorted_at : (xs : List ℕ) {z : ℕ} → Mem z (sorted xs) → Mem z xs
unfolding sorted
sorted_at [] m = absurd (not-nil m)
sorted_at (x ∷ xs) m = ⊎_elim (λ e. here e) (λ n. there (sorted_at xs n)) (insert_at x (sorted xs) m)

-- and in order, each once
insert_ascending : (x : ℕ) (ys : List ℕ) → ascending ys ≡ true → ascending (insert x ys) ≡ true
unfolding insert
insert_ascending x [] h = ascending_cons x [] (λ z m. absurd (not-nil m)) ascending_nil
insert_ascending x (y ∷ ys) h = go (eqb x y) (ltb x y) refl refl (insert_ascending x ys (ascending_tail y ys h))
  where
    above : (z : ℕ) → y < x → Mem z (insert x ys) → y < z
    above z l m = ⊎_elim (λ e. omega arith) (λ n. ascending_above y ys h n) (insert_at x ys m)

    go : (a b : Bool) → eqb x y ≡ a → ltb x y ≡ b → ascending (insert x ys) ≡ true → ascending (elim a [ true ↦ y ∷ ys | false ↦ elim b [ true ↦ x ∷ y ∷ ys | false ↦ y ∷ insert x ys ] ]) ≡ true
    go true b e f k = h
    go false true e f k = ascending_cons x (y ∷ ys) (λ z m. ⊎_elim (λ q. omega (arith, ltb-true x y f)) (λ n. omega (arith, ltb-true x y f, ascending_above y ys h n)) (cases_cons m)) h
    go false false e f k = ascending_cons y (insert x ys) (λ z m. above z (omega (arith, eqb-false x y e, ltb-false x y f)) m) k

pub sorted_ascending : (xs : List ℕ) → ascending (sorted xs) ≡ true
unfolding sorted
sorted_ascending [] = ascending_nil
sorted_ascending (x ∷ xs) = insert_ascending x (sorted xs) (sorted_ascending xs)
