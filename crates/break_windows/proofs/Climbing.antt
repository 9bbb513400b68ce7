-- Lists in which no number is smaller than the one before it: by neighbours, by places, by members; and how many numbers of one
-- lie below another.
use mathlib.Core.Path.{◌≡◌, refl, ap}
use mathlib.Core.Bool.{true, false}
use mathlib.Core.Logic.{⊎_elim}
use mathlib.Core.List.Memᴰ.{cases_cons}
use mathlib.Core.List.Memᴰ.{head as here}
use mathlib.Core.List.Memᴰ.{tail as there}
use mathlib.Core.List.{List, [], ◌∷◌, Memᴰ as Mem}
use Prim.Native.Nat.{ℕ, zero, suc, ◌-◌, ◌≤◌, ◌<◌}
use native.Mathlib.Omega.{arith}
use native.Mathlib.Decide.{ℕ_discrete}
use borrow.Author.Tests.{le-leb, leb-true, lt-ltb, le-ltb, ltb-true, ltb-false}
use lib.Dec.{leb, ltb}
use lib.ListN.{length}
use Rattle.lists.specs.Lists.{keep}
use Rattle.lists.proofs.Bools.{and_l, and_r, both, decided, fails}
use Rattle.lists.proofs.Lists.{keep_none, keep_next, keep_left, keep_length}
use Rattle.break_windows.specs.Breaks.{climbs}
use Rattle.break_windows.specs.Found.{at, Climbs}

-- the front of a list that climbs, and the rest of it
pub climbs_tail : (x : ℕ) (xs : List ℕ) → climbs (x ∷ xs) ≡ true → climbs xs ≡ true
unfolding climbs
climbs_tail x [] h = refl
climbs_tail x (y ∷ ys) h = and_r (leb x y) _ h

pub climbs_above : (x : ℕ) (xs : List ℕ) → climbs (x ∷ xs) ≡ true → {z : ℕ} → Mem z xs → x ≤ z
unfolding climbs
climbs_above x (y ∷ ys) h (here e) = omega (arith, leb-true x y (and_l (leb x y) _ h))
climbs_above x (y ∷ ys) h (there m) = omega (arith, leb-true x y (and_l (leb x y) _ h), climbs_above y ys (and_r (leb x y) _ h) m)
climbs_above x [] h m = elim m [ ]

-- by neighbours
pub climbs_at_lem : (ts : List ℕ) → climbs ts ≡ true → Climbs ts (length ts)
unfolding climbs
climbs_at_lem [] h i k = absurd (omega arith)
climbs_at_lem (x ∷ []) h i k = absurd (omega arith)
climbs_at_lem (x ∷ (y ∷ ys)) h zero k = leb-true x y (and_l (leb x y) _ h)
climbs_at_lem (x ∷ (y ∷ ys)) h (suc i) k = climbs_at_lem (y ∷ ys) (and_r (leb x y) _ h) i (omega arith)

pub climbs_by : (ts : List ℕ) → Climbs ts (length ts) → climbs ts ≡ true
unfolding climbs
climbs_by [] f = refl
climbs_by (x ∷ []) f = refl
climbs_by (x ∷ (y ∷ ys)) f = both (le-leb x y (f 0 (omega arith))) (climbs_by (y ∷ ys) (λ i k. f (suc i) (omega arith)))

climbs_not : (ts : List ℕ) (i : ℕ) → suc i < length ts → at ts (suc i) < at ts i → climbs ts ≡ false
climbs_not ts i k h = fails (climbs ts) (λ e. absurd (omega (arith, climbs_at_lem ts e i k)))

pub climbs_falls : (ts : List ℕ) (n : ℕ) → 1 ≤ n → n < length ts → at ts n < at ts (n - 1) → climbs ts ≡ false
climbs_falls ts n h k l = climbs_not ts (n - 1) (omega arith) (omega (arith, same))
  where
    same : at ts (suc (n - 1)) ≡ at ts n
    same = ap (at ts) (let z : suc (n - 1) ≡ n = omega arith in z)

-- by places
pub climbs_places : (ts : List ℕ) (n : ℕ) → Climbs ts n → (i k : ℕ) → i ≤ k → k < n → at ts i ≤ at ts k
climbs_places ts n f i zero h k = let e : at ts i ≡ at ts 0 = ap (at ts) (let z : i ≡ 0 = omega arith in z) in omega (arith, e)
climbs_places ts n f i (suc j) h k = elim (ℕ_discrete i (suc j)) [
  | yes e ↦ let q : at ts i ≡ at ts (suc j) = ap (at ts) e in omega (arith, q)
  | no d ↦ omega (arith, climbs_places ts n f i j (omega arith) (omega arith), f j k)
]

-- how many numbers lie below another
unfoldable pub rank : ℕ → List ℕ → ℕ
rank x ts = length (keep (λ t. ltb t x) ts)

rank_none : (x y : ℕ) (ts : List ℕ) → climbs (y ∷ ts) ≡ true → x ≤ y → rank x (y ∷ ts) ≡ 0
unfolding rank
rank_none x y ts h k = ap length (keep_none (λ t. ltb t x) (y ∷ ts) (λ z m. le-ltb z x (⊎_elim (λ e. omega arith) (λ n. omega (arith, climbs_above y ts h n)) (cases_cons m))))

pub rank_more : (x y : ℕ) (ts : List ℕ) → y < x → rank x (y ∷ ts) ≡ suc (rank x ts)
unfolding rank
rank_more x y ts h = ap length (keep_next (λ t. ltb t x) refl (lt-ltb y x h))

pub rank_same : (x y : ℕ) (ts : List ℕ) → x ≤ y → rank x (y ∷ ts) ≡ rank x ts
unfolding rank
rank_same x y ts h = ap length (keep_left (λ t. ltb t x) refl (le-ltb y x h))

-- where the list climbs, they are the numbers in front
front_below : (x y : ℕ) (ts : List ℕ) → y < x → ((i : ℕ) → i < rank x ts → at ts i < x) → (i : ℕ) → i < rank x (y ∷ ts) → at (y ∷ ts) i < x
front_below x y ts h f zero k = h
front_below x y ts h f (suc i) k = f i (omega (arith, rank_more x y ts h))

pub rank_below : (x : ℕ) (ts : List ℕ) → climbs ts ≡ true → (i : ℕ) → i < rank x ts → at ts i < x
unfolding rank keep
rank_below x [] h i k = absurd (omega arith)
rank_below x (y ∷ ts) h i k = ⊎_elim
    (λ e. front_below x y ts (ltb-true y x e) (rank_below x ts (climbs_tail y ts h)) i k)
    (λ e. absurd (omega (arith, rank_none x y ts h (ltb-false y x e))))
    (decided (ltb y x))

front_above :
    (x y : ℕ) (ts : List ℕ) → y < x → ((i : ℕ) → rank x ts ≤ i → i < length ts → x ≤ at ts i) → (i : ℕ) → rank x (y ∷ ts) ≤ i → i < length (y ∷ ts) →
    x ≤ at (y ∷ ts) i
front_above x y ts h f zero k l = absurd (omega (arith, rank_more x y ts h))
front_above x y ts h f (suc i) k l = f i (omega (arith, rank_more x y ts h)) (omega arith)

pub rank_above : (x : ℕ) (ts : List ℕ) → climbs ts ≡ true → (i : ℕ) → rank x ts ≤ i → i < length ts → x ≤ at ts i
rank_above x [] h i k l = absurd (omega arith)
rank_above x (y ∷ ts) h i k l = ⊎_elim
    (λ e. front_above x y ts (ltb-true y x e) (rank_above x ts (climbs_tail y ts h)) i k l)
    (λ e. omega (arith, ltb-false y x e, climbs_places (y ∷ ts) (length (y ∷ ts)) (climbs_at_lem (y ∷ ts) h) 0 i (omega arith) l))
    (decided (ltb y x))

pub rank_within : (x : ℕ) (ts : List ℕ) → rank x ts ≤ length ts
unfolding rank
rank_within x ts = keep_length (λ t. ltb t x) ts
