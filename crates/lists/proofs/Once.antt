-- Lists without repetition: no element twice, how many they have at most, and distinct numbers.
use mathlib.Core.Path.{◌≡◌, refl, sym, ap, ◌∙◌, subst}
use mathlib.Core.Bool.{Bool, true, false, cond, ◌&&◌, ◌||◌, not}
use mathlib.Core.Logic.{◌⊎◌, inl, inr, ⊎_elim}
use mathlib.Core.List.Memᴰ.{head as here}
use mathlib.Core.List.Memᴰ.{tail as there}
use mathlib.Core.List.{List, [], ◌∷◌, ◌++◌, map, Memᴰ as Mem}
use mathlib.Core.List.Memᴰ.{append_left}
use mathlib.Core.List.Memᴰ.{cases_cons}
use mathlib.Core.List.Memᴰ.{cast}
use mathlib.Core.List.Memᴰ.{not-nil}
use Prim.Native.Nat.{ℕ, zero, suc, ◌≤◌}
use native.Mathlib.Omega.{arith}
use borrow.Author.Tests.{eqb-true, eq-eqb, not-true}
use lib.Dec.{eqb}
use lib.ListN.{length}
use Rattle.lists.specs.Lists.{range, below, keep, any, elem, distinct}
use Rattle.lists.proofs.Bools.{parts, clash, fails, and_r, both, not_yes, same}
use Rattle.lists.proofs.Within.{Within}
use Rattle.lists.proofs.Lists.{elem_at, elem_by, elem_more, keep_at, map_by}
use Rattle.lists.proofs.Below.{range_at}

-- no element twice
abbrev pub Once : {A : Type 0} → List A → Type 0
Once [] = Unit {0}
Once (x ∷ xs) = (Mem x xs → ⊥) × Once xs

-- of lists one after the other that have no element twice, neither has
pub once_first : {A : Type 0} (xs ys : List A) → Once (xs ++ ys) → Once xs
once_first [] ys o = tt
once_first (x ∷ xs) ys o = (λ m. o.0 (append_left ys m), once_first xs ys o.1)

pub once_second : {A : Type 0} (xs ys : List A) → Once (xs ++ ys) → Once ys
once_second [] ys o = o
once_second (x ∷ xs) ys o = once_second xs ys o.1

pub once_keep : {A : Type 0} (p : A → Bool) (xs : List A) → Once xs → Once (keep p xs)
unfolding keep
once_keep p [] o = tt
once_keep p (x ∷ xs) o = go (p x) (once_keep p xs o.1)
  where
    go : (b : Bool) → Once (keep p xs) → Once (cond b (x ∷ keep p xs) (keep p xs))
    go true k = (λ m. o.0 (keep_at p xs m).0, k)
    go false k = k

pub once_range : (from n : ℕ) → Once (range from n)
unfolding range
once_range from zero = tt
once_range from (suc n) = (λ m. let r = range_at (suc from) n m in omega arith, once_range (suc from) n)

pub once_below : (n : ℕ) → Once (below n)
unfolding below
once_below n = once_range 0 n

-- a list without repetition whose elements are all one has one
pub one_length : {A : Type 0} (xs : List A) → Once xs → (x : A) → Mem x xs → ((y : A) → Mem y xs → y ≡ x) → length xs ≡ 1
one_length [] o x m f = absurd (not-nil m)
one_length (y ∷ []) o x m f = refl
one_length (y ∷ (z ∷ zs)) o x m f = absurd (o.0 (here (f y (here refl) ∙ sym (f z (there (here refl))))))

-- counting: where each element of a list without repetition has a partner in another, and no two share one, the other is
-- at least as long
take_out : {A : Type 0} {y : A} (ys : List A) → Mem y ys → (zs : List A) × (length ys ≡ suc (length zs)) × ((z : A) → Mem z ys → (z ≡ y) ⊎ Mem z zs)
take_out (x ∷ xs) (here e) = (xs, refl, λ z m. ⊎_elim (λ q. inl (q ∙ sym e)) inr (cases_cons m))
take_out (x ∷ xs) (there m) =
    let r = take_out xs m in
    (x ∷ r.0, ap suc r.1, λ z k. ⊎_elim (λ q. inr (here q)) (λ j. ⊎_elim inl (λ i. inr (there i)) (r.2 z j)) (cases_cons k))
take_out [] m = elim m [ ]

pub partners_length : {A B : Type 0} (R : A → B → Type 0) (xs : List A) (ys : List B) → Once xs → ((x : A) → Mem x xs → (y : B) × Mem y ys × R x y)
    → ((x z : A) (y : B) → R x y → R z y → x ≡ z) → length xs ≤ length ys
partners_length R [] ys o f g = omega arith
partners_length {A} {B} R (x ∷ xs) ys o f g =
    let p = f x (here refl) in
    let r = take_out ys p.1 in
    omega (
      arith,
      r.1,
      partners_length R xs r.0 o.1 (λ z m. let q = f z (there m) in
          ⊎_elim (λ e. absurd (o.0 (cast (g x z p.0 p.2 (subst (R z) e q.2)) m))) (λ n. (q.0, n, q.2)) (r.2 q.0 q.1)) g,
    )

pub within_length : {A : Type 0} (xs ys : List A) → Once xs → Within xs ys → length xs ≤ length ys
within_length xs ys o f = partners_length (λ x y. x ≡ y) xs ys o (λ x m. (x, f x m, refl)) (λ x z y e k. e ∙ sym k)

-- distinct: no number twice
pub distinct_at : (xs : List ℕ) → distinct xs ≡ true → Once xs
unfolding distinct
distinct_at [] h = tt
distinct_at (x ∷ xs) h = (λ m. clash (elem_by x m) (not-true (elem x xs) (search parts)), distinct_at xs (and_r (not (elem x xs)) _ h))

pub distinct_by : (xs : List ℕ) → Once xs → distinct xs ≡ true
unfolding distinct
distinct_by [] o = refl
distinct_by (x ∷ xs) o = both (not_yes (fails (elem x xs) (λ h. o.0 (elem_at x xs h)))) (distinct_by xs o.1)

-- where no value comes twice, two elements with one value are one
pub once_map : {A : Type 0} (f : A → ℕ) (xs : List A) → Once (map f xs) → {a b : A} → Mem a xs → Mem b xs → f a ≡ f b → a ≡ b
once_map f (x ∷ xs) o (here p) (here q) e = p ∙ sym q
once_map f (x ∷ xs) o (here p) (there n) e = absurd (o.0 (cast (ap f (sym p) ∙ e) (map_by f n)))
once_map f (x ∷ xs) o (there m) (here q) e = absurd (o.0 (cast (ap f (sym q) ∙ sym e) (map_by f m)))
once_map f (x ∷ xs) o (there m) (there n) e = once_map f xs o.1 m n e
once_map f [] o m _ e = elim m [ ]

eqb_swap : (x y : ℕ) → eqb x y ≡ eqb y x
eqb_swap x y = same (eqb x y) (eqb y x) (λ h. eq-eqb y x (sym (eqb-true x y h))) (λ h. eq-eqb x y (sym (eqb-true y x h)))

-- a list and one more number have no number twice, if the list has none and the number is new
pub distinct_more : (xs : List ℕ) (x : ℕ) → distinct (xs ++ (x ∷ [])) ≡ (distinct xs && not (elem x xs))
unfolding distinct elem any
distinct_more [] x = refl
distinct_more (y ∷ ys) x = rw (distinct_more ys x, elem_more y ys x, eqb_swap x y) (regroup (elem y ys) (eqb y x) (distinct ys) (elem x ys))
  where
    regroup : (a b d e : Bool) → (not (a || b) && (d && not e)) ≡ (not a && d && not (b || e))
    regroup true b d e = refl
    regroup false true true e = refl
    regroup false true false e = refl
    regroup false false d e = refl

-- distinct, by the first element
module _ {x : ℕ} {xs rest : List ℕ} (e : rest ≡ x ∷ xs) where
  pub distinct_next : elem x xs ≡ false → distinct rest ≡ distinct xs
  unfolding distinct
  distinct_next h = rw (e, h)

  pub distinct_stop : elem x xs ≡ true → distinct rest ≡ false
  unfolding distinct
  distinct_stop h = rw (e, h)
