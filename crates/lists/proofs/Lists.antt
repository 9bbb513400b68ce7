-- Laws of lists by membership: tests of all and of some, what is kept, what is mapped, and places.
use mathlib.Core.Path.{◌≡◌, refl, sym, ap, ◌∙◌}
use mathlib.Core.Bool.{Bool, true, false, cond, ◌&&◌, ◌||◌, or-false, or_assoc, and-true, and_assoc, not, or-true}
use mathlib.Core.Logic.{◌⊎◌, inl, inr, ⊎_elim}
use mathlib.Core.List.Memᴰ.{head as here}
use mathlib.Core.List.Memᴰ.{tail as there}
use mathlib.Core.List.{List, [], ◌∷◌, ◌++◌, map, Memᴰ as Mem}
use mathlib.Core.List.Memᴰ.{cases_cons}
use mathlib.Core.List.Memᴰ.{cast}
use mathlib.Core.List.Memᴰ.{not-nil}
use mathlib.Core.List.{zip_with}
use Prim.Native.Nat.{ℕ, zero, suc, ◌+◌, ◌≤◌, ◌<◌, min}
use native.Mathlib.Omega.{arith}
use native.Mathlib.Nat.{zero-min, min-zero, suc-min-suc}
use native.Mathlib.Decide.{ℕ_discrete}
use borrow.Author.Tests.{eqb-true, eq-eqb, le-leb, ne_eqb, ltb-true}
use lib.Dec.{leb, eqb, ltb}
use lib.ListN.{length, get_or, take, drop, replicate, set}
use lib.Seq.{get_or-set_same, get_or-set_other}
use Rattle.lists.specs.Lists.{keep, all, any, elem, position, implies}
use Rattle.lists.proofs.Bools.{clash, fails, and_l, and_r, both, or_l, or_r, or_cases}

module _ {A : Type 0} (p : A → Bool) where
  -- all: each element
  pub all_at : (xs : List A) → all p xs ≡ true → {x : A} → Mem x xs → p x ≡ true
  unfolding all
  all_at (y ∷ ys) h (here e) = ap p e ∙ and_l (p y) (all p ys) h
  all_at (y ∷ ys) h (there m) = all_at ys (and_r (p y) (all p ys) h) m
  all_at [] h m = elim m [ ]

  pub all_by : (xs : List A) → ((x : A) → Mem x xs → p x ≡ true) → all p xs ≡ true
  unfolding all
  all_by [] f = refl
  all_by (x ∷ xs) f = both (f x (here refl)) (all_by xs (λ y m. f y (there m)))

  -- any: some element
  pub any_by : {x : A} {xs : List A} → Mem x xs → p x ≡ true → any p xs ≡ true
  unfolding any
  any_by {x} {xs = y ∷ ys} (here e) h = or_l (any p ys) (ap p (sym e) ∙ h)
  any_by {x} {xs = y ∷ ys} (there m) h = or_r (p y) (any_by m h)
  any_by {xs = []} m h = elim m [ ]

  pub any_at : (xs : List A) → any p xs ≡ true → (x : A) × Mem x xs × (p x ≡ true)
  unfolding any
  any_at [] h = clash h refl
  any_at (x ∷ xs) h = ⊎_elim (λ e. (x, here refl, e)) (λ e. let r = any_at xs e in (r.0, there r.1, r.2)) (or_cases (p x) (any p xs) h)

  -- where any fails each element fails, and where all fails some does
  pub any_none : (xs : List A) → any p xs ≡ false → {x : A} → Mem x xs → p x ≡ false
  any_none xs h m = fails _ (λ e. clash (any_by m e) h)

  pub none_any : (xs : List A) → ((x : A) → Mem x xs → p x ≡ false) → any p xs ≡ false
  none_any xs f = fails (any p xs) (λ h. let r = any_at xs h in clash r.2 (f r.0 r.1))

  pub all_not : (xs : List A) → all p xs ≡ false → (x : A) × Mem x xs × (p x ≡ false)
  unfolding all
  all_not [] h = clash refl h
  all_not (x ∷ xs) h = go (p x) refl (λ e. all_not xs e) h
    where
      go : (b : Bool) → p x ≡ b → (all p xs ≡ false → (y : A) × Mem y xs × (p y ≡ false)) → (b && all p xs) ≡ false → (y : A) × Mem y (x ∷ xs) × (p y ≡ false)
      go true e f k = let r = f k in (r.0, there r.1, r.2)
      go false e f k = (x, here refl, e)

  pub not_all : {xs : List A} {x : A} → Mem x xs → p x ≡ false → all p xs ≡ false
  not_all {xs} m h = fails (all p xs) (λ e. clash (all_at xs e m) h)

  -- keep: the elements that pass
  pub keep_at : (xs : List A) {x : A} → Mem x (keep p xs) → Mem x xs × (p x ≡ true)
  unfolding keep
  keep_at [] m = absurd (not-nil m)
  keep_at (y ∷ ys) {x} m = go (p y) refl (λ n. keep_at ys n) m
    where
      go : (b : Bool) → p y ≡ b → (Mem x (keep p ys) → Mem x ys × (p x ≡ true)) → Mem x (cond b (y ∷ keep p ys) (keep p ys)) → Mem x (y ∷ ys) × (p x ≡ true)
      go true e f (here q) = (here q, ap p q ∙ e)
      go true e f (there n) = (there (f n).0, (f n).1)
      go false e f n = (there (f n).0, (f n).1)

  -- keep of a test that all pass, or none
  pub keep_all : (xs : List A) → ((x : A) → Mem x xs → p x ≡ true) → keep p xs ≡ xs
  unfolding keep
  keep_all [] f = refl
  keep_all (x ∷ xs) f = rw (f x (here refl)) (ap (λ (l : List A). x ∷ l) (keep_all xs (λ y m. f y (there m))))

  pub keep_none : (xs : List A) → ((x : A) → Mem x xs → p x ≡ false) → keep p xs ≡ []
  unfolding keep
  keep_none [] f = refl
  keep_none (x ∷ xs) f = rw (f x (here refl)) (keep_none xs (λ y m. f y (there m)))

  pub keep_by : (xs : List A) {x : A} → Mem x xs → p x ≡ true → Mem x (keep p xs)
  unfolding keep
  keep_by (y ∷ ys) (here q) h = rw (ap p (sym q) ∙ h) (here q)
  keep_by (y ∷ ys) {x} (there m) h = go (p y) (keep_by ys m h)
    where
      go : (b : Bool) → Mem x (keep p ys) → Mem x (cond b (y ∷ keep p ys) (keep p ys))
      go true n = there n
      go false n = n
  keep_by [] m h = elim m [ ]

-- map
module _ {A B : Type 0} (f : A → B) where
  pub map_by : {x : A} {xs : List A} → Mem x xs → Mem (f x) (map f xs)
  map_by (here e) = here (ap f e)
  map_by (there m) = there (map_by m)

  pub map_at : (xs : List A) {y : B} → Mem y (map f xs) → (x : A) × Mem x xs × (y ≡ f x)
  map_at (x ∷ xs) (here e) = (x, here refl, e)
  map_at (x ∷ xs) (there m) = let r = map_at xs m in (r.0, there r.1, r.2)
  map_at [] m = elim m [ ]

-- two lists element by element; past the end of either stands e, which f gives there too
module _ {A B C : Type 0} (f : A → B → C) where
  pub length_zip_with : (xs : List A) (ys : List B) → length (zip_with f xs ys) ≡ min (length xs) (length ys)
  unfolding zip_with
  length_zip_with [] ys = sym (zero-min (length ys))
  length_zip_with (x ∷ xs) [] = sym (min-zero (suc (length xs)))
  length_zip_with (x ∷ xs) (y ∷ ys) = ap suc (length_zip_with xs ys) ∙ sym (suc-min-suc (length xs) (length ys))

  module _ (a : A) (b : B) (e : C) (left : (y : B) → f a y ≡ e) (right : (x : A) → f x b ≡ e) where
    pub get_d_zip_with : (xs : List A) (ys : List B) (i : ℕ) → get_or (zip_with f xs ys) i e ≡ f (get_or xs i a) (get_or ys i b)
    unfolding zip_with
    get_d_zip_with [] ys i = sym (left (get_or ys i b))
    get_d_zip_with (x ∷ xs) [] i = sym (right (get_or (x ∷ xs) i a))
    get_d_zip_with (x ∷ xs) (y ∷ ys) zero = refl
    get_d_zip_with (x ∷ xs) (y ∷ ys) (suc i) = get_d_zip_with xs ys i

-- elem
pub elem_at : (n : ℕ) (xs : List ℕ) → elem n xs ≡ true → Mem n xs
unfolding elem
elem_at n xs h = let r = any_at (λ x. eqb x n) xs h in cast (sym (eqb-true r.0 n r.2)) r.1

pub elem_by : (n : ℕ) {xs : List ℕ} → Mem n xs → elem n xs ≡ true
unfolding elem
elem_by n m = any_by (λ x. eqb x n) m (eq-eqb n n refl)

-- places of a list
pub get_d_mem : {A : Type 0} (xs : List A) (i : ℕ) (d : A) → i < length xs → Mem (get_or xs i d) xs
get_d_mem [] i d h = absurd (omega arith)
get_d_mem (x ∷ xs) zero d h = here refl
get_d_mem (x ∷ xs) (suc i) d h = there (get_d_mem xs i d (omega arith))

-- of the values of a function
pub get_d_map : {A B : Type 0} (f : A → B) (xs : List A) (i : ℕ) (a : A) (b : B) → i < length xs → get_or (map f xs) i b ≡ f (get_or xs i a)
get_d_map f [] i a b h = absurd (omega arith)
get_d_map f (x ∷ xs) zero a b h = refl
get_d_map f (x ∷ xs) (suc i) a b h = get_d_map f xs i a b (omega arith)

-- an element's place
pub mem_get_d : {A : Type 0} {x : A} {xs : List A} (d : A) → Mem x xs → (i : ℕ) × (i < length xs) × (get_or xs i d ≡ x)
mem_get_d {xs = y ∷ ys} d (here e) = (0, omega arith, sym e)
mem_get_d {xs = y ∷ ys} d (there m) = let r = mem_get_d d m in (suc r.0, omega (arith, r.1), r.2)
mem_get_d {xs = []} d m = elim m [ ]

pub mem_some : {A : Type 0} {x : A} {xs : List A} → Mem x xs → 1 ≤ length xs
mem_some {xs = y ∷ ys} (here e) = omega arith
mem_some {xs = y ∷ ys} (there m) = omega arith
mem_some {xs = []} m = elim m [ ]

pub some_mem : {A : Type 0} (xs : List A) → 1 ≤ length xs → (x : A) × Mem x xs
some_mem [] h = absurd (omega arith)
some_mem (x ∷ xs) h = (x, here refl)

-- the one element of a list of one
pub one_mem : {A : Type 0} (xs : List A) → length xs ≡ 1 → (x : A) × Mem x xs × ((y : A) → Mem y xs → y ≡ x)
one_mem [] h = absurd (omega arith)
one_mem (x ∷ []) h = (x, here refl, λ y m. ⊎_elim (λ e. e) (λ n. absurd (not-nil n)) (cases_cons m))
one_mem (x ∷ (y ∷ ys)) h = absurd (omega arith)

-- lists by tests that agree on the elements are the same
pub keep_same : {A : Type 0} (p q : A → Bool) (xs : List A) → ((x : A) → Mem x xs → p x ≡ q x) → keep p xs ≡ keep q xs
unfolding keep
keep_same p q [] f = refl
keep_same p q (x ∷ xs) f = rw (f x (here refl), keep_same p q xs (λ y m. f y (there m)))

pub map_same : {A B : Type 0} (f g : A → B) (xs : List A) → ((x : A) → Mem x xs → f x ≡ g x) → map f xs ≡ map g xs
map_same f g [] h = refl
map_same f g (x ∷ xs) h = λ i. h x (here refl) i ∷ map_same f g xs (λ y m. h y (there m)) i

pub all_same : {A : Type 0} (p q : A → Bool) (xs : List A) → ((x : A) → Mem x xs → p x ≡ q x) → all p xs ≡ all q xs
unfolding all
all_same p q [] f = refl
all_same p q (x ∷ xs) f = rw (f x (here refl), all_same p q xs (λ y m. f y (there m)))

pub any_same : {A : Type 0} (p q : A → Bool) (xs : List A) → ((x : A) → Mem x xs → p x ≡ q x) → any p xs ≡ any q xs
unfolding any
any_same p q [] f = refl
any_same p q (x ∷ xs) f = rw (f x (here refl), any_same p q xs (λ y m. f y (there m)))

-- all of what is mapped, and of what is kept
pub all_map : {A B : Type 0} (p : B → Bool) (f : A → B) (xs : List A) → all p (map f xs) ≡ all (λ x. p (f x)) xs
unfolding all
all_map p f [] = refl
all_map p f (x ∷ xs) = ap (λ (b : Bool). p (f x) && b) (all_map p f xs)

pub any_map : {A B : Type 0} (p : B → Bool) (f : A → B) (xs : List A) → any p (map f xs) ≡ any (λ x. p (f x)) xs
unfolding any
any_map p f [] = refl
any_map p f (x ∷ xs) = ap (λ (b : Bool). p (f x) || b) (any_map p f xs)

pub take_map : {A B : Type 0} (f : A → B) (n : ℕ) (xs : List A) → take n (map f xs) ≡ map f (take n xs)
take_map f zero xs = refl
take_map f (suc n) [] = refl
take_map f (suc n) (x ∷ xs) = ap (λ ys. f x ∷ ys) (take_map f n xs)

pub all_keep : {A : Type 0} (p q : A → Bool) (xs : List A) → all p (keep q xs) ≡ all (λ x. implies (q x) (p x)) xs
unfolding all keep implies
all_keep p q [] = refl
all_keep p q (x ∷ xs) = go (q x) (all_keep p q xs)
  where
    go : (b : Bool) → all p (keep q xs) ≡ all (λ x. not (q x) || p x) xs → all p (cond b (x ∷ keep q xs) (keep q xs)) ≡ ((not b || p x) && all (λ x. not (q x) || p x) xs)
    go true h = ap (λ (b : Bool). p x && b) h
    go false h = h

-- what is kept of what is kept
pub keep_keep : {A : Type 0} (p q : A → Bool) (xs : List A) → keep q (keep p xs) ≡ keep (λ x. p x && q x) xs
unfolding keep
keep_keep p q [] = refl
keep_keep {A} p q (x ∷ xs) = go (p x) (keep_keep p q xs)
  where
    go : (b : Bool) → keep q (keep p xs) ≡ keep (λ x. p x && q x) xs →
        keep q (cond b (x ∷ keep p xs) (keep p xs))
        ≡ cond (b && q x) (x ∷ keep (λ x. p x && q x) xs) (keep (λ x. p x && q x) xs)
    go true h = ap (λ (l : List A). cond (q x) (x ∷ l) l) h
    go false h = h

-- something is kept, if some element passes
pub some_kept : {A : Type 0} (p : A → Bool) (xs : List A) → leb 1 (length (keep p xs)) ≡ any p xs
unfolding keep any
some_kept p [] = refl
some_kept p (x ∷ xs) = go (p x) (some_kept p xs)
  where
    go : (b : Bool) → leb 1 (length (keep p xs)) ≡ any p xs → leb 1 (length (cond b (x ∷ keep p xs) (keep p xs))) ≡ (b || any p xs)
    go true h = le-leb 1 (suc (length (keep p xs))) (omega arith)
    go false h = h

-- one more element at the end
pub any_more : {A : Type 0} (p : A → Bool) (xs : List A) (x : A) → any p (xs ++ (x ∷ [])) ≡ (any p xs || p x)
unfolding any
any_more p [] x = or-false (p x)
any_more p (y ∷ ys) x = ap (λ (b : Bool). p y || b) (any_more p ys x) ∙ sym (or_assoc (p y) (any p ys) (p x))

pub all_more : {A : Type 0} (p : A → Bool) (xs : List A) (x : A) → all p (xs ++ (x ∷ [])) ≡ (all p xs && p x)
unfolding all
all_more p [] x = and-true (p x)
all_more p (y ∷ ys) x = ap (λ (b : Bool). p y && b) (all_more p ys x) ∙ sym (and_assoc (p y) (all p ys) (p x))

pub all_append : {A : Type 0} (p : A → Bool) (xs ys : List A) → all p (xs ++ ys) ≡ (all p xs && all p ys)
unfolding all
all_append p [] ys = refl
all_append p (x ∷ xs) ys = ap (λ (b : Bool). p x && b) (all_append p xs ys) ∙ sym (and_assoc (p x) (all p xs) (all p ys))

-- tests of the images
module _ {A B : Type 0} (p : B → Bool) (f : A → B) where
  pub keep_map : (xs : List A) → keep p (map f xs) ≡ map f (keep (λ x. p (f x)) xs)
  unfolding keep
  keep_map [] = refl
  keep_map (x ∷ xs) = go (p (f x)) (keep_map xs)
    where
      go : (b : Bool) → keep p (map f xs) ≡ map f (keep (λ x. p (f x)) xs) →
          cond b (f x ∷ keep p (map f xs)) (keep p (map f xs))
          ≡ map f (cond b (x ∷ keep (λ x. p (f x)) xs) (keep (λ x. p (f x)) xs))
      go true e = ap (λ (l : List B). f x ∷ l) e
      go false e = e

-- a test of a list by its first element
module _ {A : Type 0} (p : A → Bool) {x : A} {xs rest : List A} (e : rest ≡ x ∷ xs) where
  pub all_next : p x ≡ true → all p rest ≡ all p xs
  unfolding all
  all_next h = rw (e, h)

  pub all_stop : p x ≡ false → all p rest ≡ false
  unfolding all
  all_stop h = rw (e, h)

  pub any_next : p x ≡ false → any p rest ≡ any p xs
  unfolding any
  any_next h = rw (e, h)

  pub any_stop : p x ≡ true → any p rest ≡ true
  unfolding any
  any_stop h = rw (e, h)

  -- what is kept
  pub keep_next : p x ≡ true → keep p rest ≡ x ∷ keep p xs
  unfolding keep
  keep_next h = rw (e, h)

  pub keep_left : p x ≡ false → keep p rest ≡ keep p xs
  unfolding keep
  keep_left h = rw (e, h)

  -- the place of the first that passes
  pub position_next : p x ≡ false → position p rest ≡ suc (position p xs)
  unfolding position
  position_next h = rw (e, h)

  pub position_stop : p x ≡ true → position p rest ≡ 0
  unfolding position
  position_stop h = rw (e, h)

  -- how many pass, where k are counted already
  pub counted_next : (k : ℕ) {j n : ℕ} → k + length (keep p rest) ≡ n → p x ≡ true → j ≡ k + 1 → j + length (keep p xs) ≡ n
  unfolding keep
  counted_next k {n = n} g h s = let q : k + suc (length (keep p xs)) ≡ n = rw (e, h) at g in omega arith

  pub counted_left : (k : ℕ) {j n : ℕ} → k + length (keep p rest) ≡ n → p x ≡ false → j ≡ k → j + length (keep p xs) ≡ n
  unfolding keep
  counted_left k {n = n} g h s = let q : k + length (keep p xs) ≡ n = rw (e, h) at g in omega arith

pub counted_all : {A : Type 0} (p : A → Bool) {rest : List A} (k : ℕ) {n : ℕ} → k + length (keep p rest) ≡ n → rest ≡ [] → k ≡ n
unfolding keep
counted_all p k {n} g e = let q : k + 0 ≡ n = rw e at g in omega arith

-- what passes a test, of a list after another
pub keep_append : {A : Type 0} (p : A → Bool) (xs ys : List A) → keep p (xs ++ ys) ≡ keep p xs ++ keep p ys
unfolding keep
keep_append p [] ys = refl
keep_append {A} p (x ∷ xs) ys = go (p x) (keep_append p xs ys)
  where
    go : (b : Bool) → keep p (xs ++ ys) ≡ keep p xs ++ keep p ys → cond b (x ∷ keep p (xs ++ ys)) (keep p (xs ++ ys)) ≡ cond b (x ∷ keep p xs) (keep p xs) ++ keep p ys
    go true e = ap (λ (l : List A). x ∷ l) e
    go false e = e

pub elem_more : (v : ℕ) (xs : List ℕ) (x : ℕ) → elem v (xs ++ (x ∷ [])) ≡ (elem v xs || eqb x v)
unfolding elem
elem_more v xs x = any_more (λ y. eqb y v) xs x

-- an element of a list of two
pub in_two : {A : Type 0} {x y z : A} → Mem z (x ∷ y ∷ []) → (z ≡ x) ⊎ (z ≡ y)
in_two m = ⊎_elim inl (λ n. ⊎_elim inr (λ k. absurd (not-nil k)) (cases_cons n)) (cases_cons m)

-- a list of one element over and over, from a place on and at a place
pub all_past : {A : Type 0} (p : A → Bool) (z : A) → p z ≡ true → (n m : ℕ) → all p (drop n (replicate m z)) ≡ true
unfolding all
all_past p z h zero zero = refl
all_past p z h zero (suc m) = both h (all_past p z h zero m)
all_past p z h (suc n) zero = refl
all_past p z h (suc n) (suc m) = all_past p z h n m

pub zeros_at : (m i : ℕ) → ◌≡◌ {A = ℕ} (get_or (replicate m 0) i 0) 0
zeros_at zero i = refl
zeros_at (suc m) zero = refl
zeros_at (suc m) (suc i) = zeros_at m i

-- which numbers below w are in a list, as a table of Booleans: after one more
pub seen_more : (seen : List Bool) (ts : List ℕ) (t w : ℕ) → length seen ≡ w → t < w → ((v : ℕ) → v < w → get_or seen v false ≡ elem v ts)
    → (v : ℕ) → v < w → get_or (set seen t true) v false ≡ elem v (ts ++ (t ∷ []))
seen_more seen ts t w e h f v l = elim (ℕ_discrete t v) [
  | yes q ↦ rw (elem_more v ts t, ← q, eq-eqb t t refl, get_or-set_same seen t true false (omega arith)) (sym (or-true (elem t ts)))
  | no q ↦ rw (elem_more v ts t, ne_eqb t v q, get_or-set_other seen t v true false (λ p. q (sym p))) (f v l ∙ sym (or-false (elem v ts)))
]

-- two tests of every element
pub all_both : {A : Type 0} (p q : A → Bool) (xs : List A) → (all p xs && all q xs) ≡ all (λ x. p x && q x) xs
unfolding all
all_both p q [] = refl
all_both p q (x ∷ xs) = go (p x) (q x) (all p xs) (all q xs) ∙ ap (λ (b : Bool). (p x && q x) && b) (all_both p q xs)
  where
    go : (a b y z : Bool) → ((a && y) && (b && z)) ≡ ((a && b) && (y && z))
    go true true y z = refl
    go true false true z = refl
    go true false false z = refl
    go false b y z = refl

-- what is kept is no longer
pub keep_length : {A : Type 0} (p : A → Bool) (xs : List A) → length (keep p xs) ≤ length xs
unfolding keep
keep_length p [] = omega arith
keep_length p (x ∷ xs) = go (p x) (keep_length p xs)
  where
    go : (b : Bool) → length (keep p xs) ≤ length xs → length (cond b (x ∷ keep p xs) (keep p xs)) ≤ suc (length xs)
    go true h = omega arith
    go false h = omega arith

-- a number of a list of numbers that are all below k
pub each_below : {k : ℕ} (l : List ℕ) (i : ℕ) → all (λ m. ltb m k) l ≡ true → i < length l → get_or l i 0 < k
each_below {k} l i h b = ltb-true (get_or l i 0) k (all_at (λ m. ltb m k) l h (get_d_mem l i 0 b))

-- a list of which a test keeps no fewer
pub keep_more : {A : Type 0} (p q : A → Bool) (xs : List A) → ((x : A) → Mem x xs → p x ≡ true → q x ≡ true) → length (keep p xs) ≤ length (keep q xs)
unfolding keep
keep_more p q [] f = omega arith
keep_more p q (x ∷ xs) f = go (p x) (q x) refl refl (f x (here refl)) (keep_more p q xs (λ y m. f y (there m)))
  where
    go :
        (a b : Bool) → p x ≡ a → q x ≡ b → (p x ≡ true → q x ≡ true) → length (keep p xs) ≤ length (keep q xs) →
        length (cond a (x ∷ keep p xs) (keep p xs)) ≤ length (cond b (x ∷ keep q xs) (keep q xs))
    go true true d e g h = omega arith
    go true false d e g h = clash (g d) e
    go false true d e g h = omega arith
    go false false d e g h = h
