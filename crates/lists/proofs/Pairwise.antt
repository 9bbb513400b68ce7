-- A relation between each element of a list and every later one.
use mathlib.Core.Path.{◌≡◌, refl, sym, ap, ◌∙◌, subst, subst₂}
use mathlib.Core.Bool.{Bool, true, false, cond}
use mathlib.Core.Logic.{⊎_elim, ◌≢◌}
use mathlib.Core.List.Memᴰ.{head as here}
use mathlib.Core.List.Memᴰ.{tail as there}
use mathlib.Core.List.{List, [], ◌∷◌, ◌++◌, map, Memᴰ as Mem}
use mathlib.Core.List.Memᴰ.{append_cases}
use mathlib.Core.List.Memᴰ.{append_left}
use mathlib.Core.List.Memᴰ.{append_right}
use mathlib.Core.List.Memᴰ.{cast}
use Prim.Native.Nat.{ℕ, zero, suc, ◌<◌}
use native.Mathlib.Omega.{arith}
use native.Mathlib.Decide.{ℕ_discrete}
use borrow.Author.Tests.{ltb-true, ltb-false}
use lib.Dec.{ltb}
use lib.ListN.{length, get_or}
use Rattle.lists.specs.Lists.{keep, concat, position, ascending}
use Rattle.lists.proofs.Bools.{decided, fails}
use Rattle.lists.proofs.Lists.{keep_at, map_at, map_by, get_d_mem}
use Rattle.lists.proofs.Concat.{concat_at, concat_by}
use Rattle.lists.proofs.Once.{Once}
use Rattle.lists.proofs.Ascending.{ascending_above, ascending_tail}

abbrev pub Pairwise : {A : Type 0} → (A → A → Type 0) → List A → Type 0
Pairwise R [] = Unit {0}
Pairwise {A} R (x ∷ xs) = ((y : A) → Mem y xs → R x y) × Pairwise R xs

-- by another relation that follows on the elements
pub pairwise_by : {A : Type 0} (R S : A → A → Type 0) (xs : List A) → ((x y : A) → Mem x xs → Mem y xs → R x y → S x y) → Pairwise R xs → Pairwise S xs
pairwise_by R S [] f o = tt
pairwise_by R S (x ∷ xs) f o = (λ y m. f x y (here refl) (there m) (o.0 y m), pairwise_by R S xs (λ y z m n. f y z (there m) (there n)) o.1)

module _ {A : Type 0} (R : A → A → Type 0) where
  pub pairwise_keep : (p : A → Bool) (xs : List A) → Pairwise R xs → Pairwise R (keep p xs)
  unfolding keep
  pairwise_keep p [] o = tt
  pairwise_keep p (x ∷ xs) o = go (p x) (pairwise_keep p xs o.1)
    where
      go : (b : Bool) → Pairwise R (keep p xs) → Pairwise R (cond b (x ∷ keep p xs) (keep p xs))
      go true k = (λ y m. o.0 y (keep_at p xs m).0, k)
      go false k = k

  -- of two lists, one after the other
  pub pairwise_append : (xs ys : List A) → Pairwise R xs → Pairwise R ys → ((x y : A) → Mem x xs → Mem y ys → R x y) → Pairwise R (xs ++ ys)
  pairwise_append [] ys o k f = k
  pairwise_append (x ∷ xs) ys o k f = (λ y m. ⊎_elim (λ n. o.0 y n) (λ n. f x y (here refl) n) (append_cases xs m), pairwise_append xs ys o.1 k (λ a b m n. f a b (there m) n))

  pub pairwise_left : (xs ys : List A) → Pairwise R (xs ++ ys) → Pairwise R xs
  pairwise_left [] ys o = tt
  pairwise_left (x ∷ xs) ys o = (λ y m. o.0 y (append_left ys m), pairwise_left xs ys o.1)

  pub pairwise_right : (xs ys : List A) → Pairwise R (xs ++ ys) → Pairwise R ys
  pairwise_right [] ys o = o
  pairwise_right (x ∷ xs) ys o = pairwise_right xs ys o.1

  pub pairwise_across : {x y : A} {xs : List A} (ys : List A) → Pairwise R (xs ++ ys) → Mem x xs → Mem y ys → R x y
  pairwise_across {x} {y} {xs = z ∷ zs} ys o (here e) n = subst (λ (w : A). R w y) (sym e) (o.0 y (append_right zs n))
  pairwise_across {xs = z ∷ zs} ys o (there m) n = pairwise_across ys o.1 m n
  pairwise_across {xs = []} ys o m n = elim m [ ]

  pub pairwise_get_d : (xs : List A) (d : A) (i j : ℕ) → Pairwise R xs → i < j → j < length xs → R (get_or xs i d) (get_or xs j d)
  pairwise_get_d [] d i j o l h = absurd (omega arith)
  pairwise_get_d (x ∷ xs) d i zero o l h = absurd (omega arith)
  pairwise_get_d (x ∷ xs) d zero (suc j) o l h = o.0 _ (get_d_mem xs j d (omega arith))
  pairwise_get_d (x ∷ xs) d (suc i) (suc j) o l h = pairwise_get_d xs d i j o.1 (omega arith) (omega arith)

  -- where an order without both ways goes along the list, so does the relation along the order
  pub pairwise_order :
      (Q : A → A → Type 0) → ((x y : A) → Q x y → Q y x → ⊥) → {x y : A} {xs : List A} → Pairwise Q xs → Pairwise R xs →
      Mem x xs → Mem y xs → Q x y → R x y
  pairwise_order Q f {x} {y} {xs = z ∷ zs} o k (here p) (here q) h = absurd (let l = subst₂ Q p q h in f z z l l)
  pairwise_order Q f {x} {y} {xs = z ∷ zs} o k (here p) (there n) h = subst (λ (w : A). R w y) (sym p) (k.0 y n)
  pairwise_order Q f {x} {y} {xs = z ∷ zs} o k (there m) (here q) h = absurd (f x z (subst (Q x) q h) (o.0 x m))
  pairwise_order Q f {x} {y} {xs = z ∷ zs} o k (there m) (there n) h = pairwise_order Q f o.1 k.1 m n h
  pairwise_order Q f {xs = []} o k m _ h = elim m [ ]

-- of the values of a function
module _ {A B : Type 0} (S : B → B → Type 0) (f : A → B) where
  pub pairwise_map : (xs : List A) → Pairwise (λ x y. S (f x) (f y)) xs → Pairwise S (map f xs)
  pairwise_map [] o = tt
  pairwise_map (x ∷ xs) o = (λ y m. let r = map_at f xs m in subst (S (f x)) (sym r.2) (o.0 r.0 r.1), pairwise_map xs o.1)

  pub pairwise_of_map : (xs : List A) → Pairwise S (map f xs) → Pairwise (λ x y. S (f x) (f y)) xs
  pairwise_of_map [] o = tt
  pairwise_of_map (x ∷ xs) o = (λ y m. o.0 (f y) (map_by f m), pairwise_of_map xs o.1)

-- of lists one after the other: in each, and across them
module _ {A B : Type 0} (S : B → B → Type 0) (f : A → List B) where
  pub pairwise_concat : (xs : List A) → ((x : A) → Mem x xs → Pairwise S (f x)) → Pairwise (λ x y. (a b : B) → Mem a (f x) → Mem b (f y) → S a b) xs → Pairwise S (concat f xs)
  unfolding concat
  pairwise_concat [] g o = tt
  pairwise_concat (x ∷ xs) g o = pairwise_append S (f x) (concat f xs) (g x (here refl)) (pairwise_concat xs (λ y m. g y (there m)) o.1)
      (λ a b m n. let r = concat_at f xs n in o.0 r.0 r.1 a b m r.2)

  pub pairwise_in : {x : A} {xs : List A} → Pairwise S (concat f xs) → Mem x xs → Pairwise S (f x)
  unfolding concat
  pairwise_in {x} {xs = y ∷ ys} o (here e) = subst (λ (z : A). Pairwise S (f z)) (sym e) (pairwise_left S (f y) (concat f ys) o)
  pairwise_in {xs = y ∷ ys} o (there m) = pairwise_in (pairwise_right S (f y) (concat f ys) o) m
  pairwise_in {xs = []} o m = elim m [ ]

  pub pairwise_between : (xs : List A) → Pairwise S (concat f xs) → Pairwise (λ x y. (a b : B) → Mem a (f x) → Mem b (f y) → S a b) xs
  unfolding concat
  pairwise_between [] o = tt
  pairwise_between (x ∷ xs) o = (λ y n a b p q. pairwise_across S (concat f xs) o p (concat_by f n q), pairwise_between xs (pairwise_right S (f x) (concat f xs) o))

-- numbers
pub ascending_pairwise : (xs : List ℕ) → ascending xs ≡ true → Pairwise (λ x y. x < y) xs
ascending_pairwise [] h = tt
ascending_pairwise (x ∷ xs) h = (λ y m. ascending_above x xs h m, ascending_pairwise xs (ascending_tail x xs h))

-- no element twice
pub once_pairwise : {A : Type 0} (xs : List A) → Once xs → Pairwise (λ x y. x ≢ y) xs
once_pairwise [] o = tt
once_pairwise (x ∷ xs) o = (λ y m e. o.0 (cast e m), once_pairwise xs o.1)

pub pairwise_once : {A : Type 0} (xs : List A) → Pairwise (λ x y. x ≢ y) xs → Once xs
pairwise_once [] o = tt
pairwise_once (x ∷ xs) o = (λ m. o.0 x m refl, pairwise_once xs o.1)

pub once_get_d : {A : Type 0} (xs : List A) (d : A) (i j : ℕ) → Once xs → i < length xs → j < length xs → get_or xs i d ≡ get_or xs j d → i ≡ j
once_get_d xs d i j o h k e = elim (ℕ_discrete i j) [
  | yes q ↦ q
  | no n ↦ absurd (⊎_elim (λ l. apart i j (ltb-true i j l) k e) (λ l. apart j i (omega (arith, ltb-false i j l)) h (sym e)) (decided (ltb i j)))
]
  where
    apart : (i j : ℕ) → i < j → j < length xs → get_or xs i d ≢ get_or xs j d
    apart i j = pairwise_get_d (λ x y. x ≢ y) xs d i j (once_pairwise xs o)

pub map_once_on : {A B : Type 0} (f : A → B) (xs : List A) → ((x y : A) → Mem x xs → Mem y xs → f x ≡ f y → x ≡ y) → Once xs → Once (map f xs)
map_once_on f xs g o = pairwise_once (map f xs) (pairwise_map (λ x y. x ≢ y) f xs (pairwise_by (λ x y. x ≢ y) (λ x y. f x ≢ f y) xs (λ x y m n d e. d (g x y m n e)) (once_pairwise xs o)))

pub map_once : {A B : Type 0} (f : A → B) (xs : List A) → ((x y : A) → f x ≡ f y → x ≡ y) → Once xs → Once (map f xs)
map_once f xs g o = map_once_on f xs (λ x y m n. g x y) o

pub once_of_map : {A B : Type 0} (f : A → B) (xs : List A) → Once (map f xs) → Once xs
once_of_map f [] o = tt
once_of_map f (x ∷ xs) o = (λ m. o.0 (map_by f m), once_of_map f xs o.1)

pub append_once : {A : Type 0} (xs ys : List A) → Once xs → Once ys → ((x : A) → Mem x xs → Mem x ys → ⊥) → Once (xs ++ ys)
append_once xs ys o k f = pairwise_once (xs ++ ys) (pairwise_append (λ x y. x ≢ y) xs ys (once_pairwise xs o) (once_pairwise ys k) (λ x y m n e. f x m (cast e n)))

-- of lists one after the other, if each element tells its list
pub concat_once : {A B : Type 0} (f : A → List B) (owner : B → A) (xs : List A) → ((x : A) → Mem x xs → Once (f x)) →
    ((x : A) (b : B) → Mem b (f x) → owner b ≡ x) → Once xs → Once (concat f xs)
concat_once {A} {B} f owner xs g h o = pairwise_once (concat f xs) (pairwise_concat (λ a b. a ≢ b) f xs (λ x m. once_pairwise (f x) (g x m))
    (pairwise_by (λ x y. x ≢ y) (λ x y. (a b : B) → Mem a (f x) → Mem b (f y) → a ≢ b) xs (λ x y m n d a b p q e. d (sym (h x a p) ∙ ap owner e ∙ h y b q)) (once_pairwise xs o)))

-- the index of an element, by a test for equality
module _ {A : Type 0} (same : A → A → Bool) (equal : (x y : A) → same x y ≡ true → x ≡ y) (itself : (x : A) → same x x ≡ true) where
  index_there : (x y : A) (xs : List A) → y ≢ x → position (same y) (x ∷ xs) ≡ suc (position (same y) xs)
  unfolding position
  index_there x y xs d = rw (fails (same y x) (λ e. d (equal y x e)))

  index_here : (x : A) (xs : List A) → position (same x) (x ∷ xs) ≡ 0
  unfolding position
  index_here x xs = rw (itself x)

  -- it grows along a list without repetition
  pub index_ascends : (xs : List A) → Once xs → Pairwise (λ x y. position (same x) xs < position (same y) xs) xs
  index_ascends [] o = tt
  index_ascends (x ∷ xs) o = (
    λ y m. omega (arith, index_here x xs, index_there x y xs (other y m)),
    pairwise_by (λ y z. position (same y) xs < position (same z) xs) (λ y z. position (same y) (x ∷ xs) < position (same z) (x ∷ xs)) xs
        (λ y z m n l. omega (arith, index_there x y xs (other y m), index_there x z xs (other z n))) (index_ascends xs o.1),
  )
    where
      other : (y : A) → Mem y xs → y ≢ x
      other y m e = o.0 (cast (sym e) m)
