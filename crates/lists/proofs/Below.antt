-- The numbers from one on, and below a bound.
use mathlib.Core.Path.{◌≡◌, refl, ap, ◌∙◌}
use mathlib.Core.Bool.{Bool, true}
use mathlib.Core.List.Memᴰ.{head as here}
use mathlib.Core.List.Memᴰ.{tail as there}
use mathlib.Core.List.{List, [], ◌∷◌, ◌++◌, map, Memᴰ as Mem}
use Prim.Native.Nat.{ℕ, zero, suc, ◌+◌, ◌≤◌, ◌<◌}
use native.Mathlib.Omega.{arith}
use native.Mathlib.Numerals.{add-one}
use native.Mathlib.Decide.{ℕ_discrete}
use lib.ListN.{length, get_or, drop, drop_of_length-le}
use Rattle.lists.specs.Lists.{range, below, all, any}
use Rattle.lists.proofs.Lists.{all_at, all_by, any_at, any_by}
use Rattle.lists.proofs.Parts.{drop_next}

-- range and below
pub range_at : (from n : ℕ) {x : ℕ} → Mem x (range from n) → (from ≤ x) × (x < from + n)
unfolding range
range_at from (suc n) (here e) = omega arith
range_at from (suc n) (there m) = let r = range_at (suc from) n m in omega arith
range_at from zero m = elim m [ ]

pub range_by : (from n x : ℕ) → from ≤ x → x < from + n → Mem x (range from n)
unfolding range
range_by from zero x l h = absurd (omega arith)
range_by from (suc n) x l h = elim (ℕ_discrete x from) [ yes e ↦ here e | no d ↦ there (range_by (suc from) n x (omega arith) (omega arith)) ]

pub below_at : (n : ℕ) {x : ℕ} → Mem x (below n) → x < n
unfolding below
below_at n m = let r = range_at 0 n m in omega arith

pub below_by : {n x : ℕ} → x < n → Mem x (below n)
unfolding below
below_by {n} {x} h = range_by 0 n x (omega arith) (omega arith)

pub length_range : (from n : ℕ) → length (range from n) ≡ n
unfolding range
length_range from zero = refl
length_range from (suc n) = ap suc (length_range (suc from) n)

pub get_d_range : (from n i d : ℕ) → i < n → get_or (range from n) i d ≡ from + i
unfolding range
get_d_range from zero i d h = absurd (omega arith)
get_d_range from (suc n) zero d h = omega arith
get_d_range from (suc n) (suc i) d h = get_d_range (suc from) n i d (omega arith) ∙ omega arith

pub length_below : (n : ℕ) → length (below n) ≡ n
unfolding below
length_below n = length_range 0 n

pub get_d_below : (n i d : ℕ) → i < n → get_or (below n) i d ≡ i
unfolding below
get_d_below n i d h = get_d_range 0 n i d h ∙ omega arith

-- a list that is made by index
get_d_map_range : {A : Type 0} (f : ℕ → A) (from n i : ℕ) (d : A) → i < n → get_or (map f (range from n)) i d ≡ f (from + i)
unfolding range
get_d_map_range f from zero i d h = absurd (omega arith)
get_d_map_range f from (suc n) zero d h = ap f (omega arith)
get_d_map_range f from (suc n) (suc i) d h = get_d_map_range f (suc from) n i d (omega arith) ∙ ap f (omega arith)

pub get_d_mapped : {A : Type 0} (f : ℕ → A) (n i : ℕ) (d : A) → i < n → get_or (map f (below n)) i d ≡ f i
unfolding below
get_d_mapped f n i d h = get_d_map_range f 0 n i d h ∙ ap f (omega arith)

-- each number below a bound
pub all_below : (p : ℕ → Bool) (n : ℕ) → all p (below n) ≡ true → (i : ℕ) → i < n → p i ≡ true
all_below p n h i l = all_at p (below n) h (below_by l)

pub below_all : (p : ℕ → Bool) (n : ℕ) → ((i : ℕ) → i < n → p i ≡ true) → all p (below n) ≡ true
below_all p n f = all_by p (below n) (λ i m. f i (below_at n m))

-- some number below a bound
pub any_below : (p : ℕ → Bool) (n : ℕ) → any p (below n) ≡ true → (i : ℕ) × (i < n) × (p i ≡ true)
any_below p n h = let r = any_at p (below n) h in (r.0, below_at n r.1, r.2)

pub below_any : (p : ℕ → Bool) (n i : ℕ) → i < n → p i ≡ true → any p (below n) ≡ true
below_any p n i l h = any_by p (below_by l) h

-- over the numbers below m, of which the code counts k
module _ {m k : ℕ} (e : m ≡ k) (i : ℕ) where
  pub below_next : i < k → drop i (below m) ≡ i ∷ drop (i + 1) (below m)
  below_next h = drop_next (below m) i 0 (omega (arith, length_below m)) ∙ ap (λ (x : ℕ). x ∷ drop (i + 1) (below m)) (get_d_below m i 0 (omega arith))

  pub below_end : k ≤ i → drop i (below m) ≡ []
  below_end h = let z : length (below m) ≤ i = omega (arith, length_below m) in drop_of_length-le (below m) z

-- the numbers below one more
range_more : (from n : ℕ) → range from (suc n) ≡ range from n ++ ((from + n) ∷ [])
unfolding range
range_more from zero = ap (λ (x : ℕ). x ∷ []) (let e : from ≡ from + 0 = omega arith in e)
range_more from (suc n) =
    let e : suc from + n ≡ from + suc n = omega arith in
    ap (λ (l : List ℕ). from ∷ l) (range_more (suc from) n ∙ ap (λ (x : ℕ). range (suc from) n ++ (x ∷ [])) e)

pub below_more : (n : ℕ) → below (n + 1) ≡ below n ++ (n ∷ [])
unfolding below
below_more n = rw add-one (range_more 0 n ∙ ap (λ (x : ℕ). range 0 n ++ (x ∷ [])) (let e : 0 + n ≡ n = omega arith in e))
