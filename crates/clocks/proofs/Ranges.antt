-- The ranges of rows and labels: what was read has them, and what has them is read back when it was printed.
use mathlib.Core.Path.{◌≡◌, refl, ap, ◌∙◌, subst}
use mathlib.Core.Bool.{true}
use mathlib.Core.List.Memᴰ.{head as here}
use mathlib.Core.List.Memᴰ.{tail as there}
use mathlib.Core.List.{List, [], ◌∷◌, ◌++◌, Memᴰ as Mem}
use Prim.Native.Nat.{ℕ, zero, suc, ◌-◌, ◌≤◌, min}
use native.Mathlib.Omega.{arith}
use native.Mathlib.Decide.{dec_le}
use lib.ListN.{length, take, drop, replicate, length-append, length-take, length-replicate, take-append-drop}
use lib.Seq.{take_at, drop_at}
use Rattle.lists.specs.Lists.{concat}
use Rattle.reading.specs.Reading.{got, yield, byte4, such, many}
use Rattle.clocks.specs.Clocks.{is_bound, no_bound, free, join, row}
use Rattle.reading.proofs.Places.{bind_got, such_got}
use Rattle.reading.proofs.Reading.{bind_at, yield_at, such_at, many_at}
use Rattle.clocks.proofs.Clocks.{length_join}
use Rattle.reading.proofs.Printed.{many_printed}

-- a row of eight: bounds for the first n clocks, and none for the rest
pub record Row (n : ℕ) (r : List ℕ) : Type 0 where
  pub long : length r ≡ 8
  pub bound : (b : ℕ) → Mem b (take n r) → is_bound b ≡ true
  pub past : drop n r ≡ replicate (8 - n) no_bound

pub row_printed : (out : ℕ → List ℕ) → ((x : ℕ) → is_bound x ≡ true → (s : List ℕ) → byte4 (out x ++ s) ≡ got x s)
    → (n : ℕ) → n ≤ 8 → (r : List ℕ) → Row n r → (s : List ℕ) → row n (concat out (take n r) ++ s) ≡ got r s
unfolding row yield
row_printed out f n h r w s =
    let z : n ≡ length (take n r) = omega (arith, length-take n r, w.long) in
    bind_got _ _ _ (ap (λ (k : ℕ). many k (such byte4 is_bound) (concat out (take n r) ++ s)) z
    ∙ many_printed (such byte4 is_bound) out (take n r) (λ x m t. such_got byte4 is_bound _ (f x (w.bound x m) t) (w.bound x m)) s)
    ∙ ap (λ (l : List ℕ). got l s) (rw (← w.past) (take-append-drop n r))

pub row_at : (n : ℕ) → n ≤ 8 → (s : List ℕ) {r t : List ℕ} → row n s ≡ got r t → Row n r
unfolding row
row_at n h s {r} e =
    let a = bind_at _ _ s e in
    let k = many_at n _ s a.2 in
    subst (Row n) (yield_at a.1 a.3) (record {
      long = length-append a.0 (replicate (8 - n) no_bound) ∙ omega (arith, k.0, length-replicate (8 - n) no_bound);
      bound = λ b m. let w = k.1 b (subst (Mem b) (take_at a.0 _ n k.0) m) in (such_at byte4 is_bound w.0 w.2).0;
      past = drop_at a.0 _ n k.0;
    })

-- no bounds, and the least of two rows
pub row_free : (n : ℕ) → n ≤ 8 → Row n free
row_free n h = record { long = refl; bound = λ b m. rw (taken n 8 b m); past = dropped n 8 h }
  where
    taken : (n k b : ℕ) → Mem b (take n (replicate k no_bound)) → b ≡ no_bound
    taken zero k b m = elim m [ ]
    taken (suc n) zero b m = elim m [ ]
    taken (suc n) (suc k) b (here e) = e
    taken (suc n) (suc k) b (there m) = taken n k b m

    dropped : (n k : ℕ) → n ≤ k → drop n (replicate k no_bound) ≡ replicate (k - n) no_bound
    dropped zero k h = ap (λ (j : ℕ). replicate j no_bound) (let z : k ≡ k - 0 = omega arith in z)
    dropped (suc n) zero h = absurd (omega arith)
    dropped (suc n) (suc k) h = dropped n k (omega arith) ∙ ap (λ (j : ℕ). replicate j no_bound) (let z : k - n ≡ suc k - suc n = omega arith in z)

take_join : (n : ℕ) (a b : List ℕ) → take n (join a b) ≡ join (take n a) (take n b)
unfolding join
take_join zero a b = refl
take_join (suc n) [] b = refl
take_join (suc n) (x ∷ xs) [] = refl
take_join (suc n) (x ∷ xs) (y ∷ ys) = ap (λ (l : List ℕ). min x y ∷ l) (take_join n xs ys)

drop_join : (n : ℕ) (a b : List ℕ) → drop n (join a b) ≡ join (drop n a) (drop n b)
unfolding join
drop_join zero a b = refl
drop_join (suc n) [] b = refl
drop_join (suc n) (x ∷ xs) [] = none (drop n xs)
  where
    none : (l : List ℕ) → [] ≡ join l []
    none [] = refl
    none (x ∷ xs) = refl
drop_join (suc n) (x ∷ xs) (y ∷ ys) = drop_join n xs ys

join_mem : (a b : List ℕ) {z : ℕ} → Mem z (join a b) → (x : ℕ) × (y : ℕ) × Mem x a × Mem y b × (z ≡ min x y)
unfolding join
join_mem [] b m = elim m [ ]
join_mem (x ∷ xs) [] m = elim m [ ]
join_mem (x ∷ xs) (y ∷ ys) (here e) = (x, y, here refl, here refl, e)
join_mem (x ∷ xs) (y ∷ ys) (there m) = let w = join_mem xs ys m in (w.0, w.1, there w.2, there w.3, w.4)

join_same : (a : List ℕ) → join a a ≡ a
unfolding join
join_same [] = refl
join_same (x ∷ xs) = rw (join_same xs) (ap (λ (y : ℕ). y ∷ xs) (let z : min x x ≡ x = omega arith in z))

bound_min : (x y : ℕ) → is_bound x ≡ true → is_bound y ≡ true → is_bound (min x y) ≡ true
bound_min x y h k = elim (dec_le x y) [
  | yes l ↦ ap is_bound (let z : min x y ≡ x = omega arith in z) ∙ h
  | no l ↦ ap is_bound (let z : min x y ≡ y = omega arith in z) ∙ k
]

pub row_join : (n : ℕ) (a b : List ℕ) → Row n a → Row n b → Row n (join a b)
row_join n a b v w = record {
  long = length_join a b ∙ omega (arith, v.long, w.long);
  bound = λ z m. let r = join_mem (take n a) (take n b) (subst (Mem z) (take_join n a b) m) in rw r.4 (bound_min r.0 r.1 (v.bound _ r.2) (w.bound _ r.3));
  past = drop_join n a b ∙ rw (v.past, w.past) (join_same (replicate (8 - n) no_bound));
}
