-- Ascending lists: told by their members, and tested from a place on.
use mathlib.Core.Path.{◌≡◌, refl, sym, ap, ◌∙◌}
use mathlib.Core.Bool.{true, false, ◌&&◌, Bool, cond}
use mathlib.Core.Logic.{⊎_elim}
use mathlib.Core.List.Memᴰ.{cases_cons}
use mathlib.Core.List.Memᴰ.{head as here}
use mathlib.Core.List.Memᴰ.{not-nil}
use mathlib.Core.List.Memᴰ.{tail as there}
use mathlib.Core.List.{List, [], ◌∷◌, Memᴰ as Mem}
use Prim.Native.Nat.{ℕ, ◌≤◌, ◌<◌, zero, suc, ◌+◌}
use native.Mathlib.Omega.{arith}
use borrow.Author.Tests.{lt-ltb, le-ltb, ltb-true}
use lib.Dec.{ltb}
use lib.ListN.{length, get_or, drop, length-drop}
use Rattle.lists.specs.Lists.{ascending, range, below, keep}
use Rattle.lists.proofs.Parts.{drop_next}
use Rattle.lists.proofs.Bools.{and_l, and_r, both}
use Rattle.lists.proofs.Below.{range_at}
use Rattle.lists.proofs.Within.{Within}
use Rattle.lists.proofs.Lists.{keep_at}
use Rattle.lists.proofs.Once.{Once}

-- ascending: each before what follows it
pub ascending_nil : ascending [] ≡ true
unfolding ascending
ascending_nil = refl

pub ascending_tail : (x : ℕ) (xs : List ℕ) → ascending (x ∷ xs) ≡ true → ascending xs ≡ true
unfolding ascending
ascending_tail x [] h = refl
ascending_tail x (y ∷ ys) h = and_r (ltb x y) _ h

pub ascending_above : (x : ℕ) (xs : List ℕ) → ascending (x ∷ xs) ≡ true → {z : ℕ} → Mem z xs → x < z
unfolding ascending
ascending_above x (y ∷ ys) h (here e) = omega (arith, ltb-true x y (and_l (ltb x y) _ h))
ascending_above x (y ∷ ys) h (there m) = omega (arith, ltb-true x y (and_l (ltb x y) _ h), ascending_above y ys (and_r (ltb x y) _ h) m)
ascending_above x [] h m = elim m [ ]

pub ascending_cons : (x : ℕ) (xs : List ℕ) → ((z : ℕ) → Mem z xs → x < z) → ascending xs ≡ true → ascending (x ∷ xs) ≡ true
unfolding ascending
ascending_cons x [] f h = refl
ascending_cons x (y ∷ ys) f h = both (lt-ltb x y (f y (here refl))) h

pub ascending_once : (xs : List ℕ) → ascending xs ≡ true → Once xs
ascending_once [] h = tt
ascending_once (x ∷ xs) h = (λ m. let l = ascending_above x xs h m in omega arith, ascending_once xs (ascending_tail x xs h))

pub ascending_range : (from n : ℕ) → ascending (range from n) ≡ true
unfolding range
ascending_range from zero = ascending_nil
ascending_range from (suc n) = ascending_cons from (range (suc from) n) (λ z m. let r = range_at (suc from) n m in omega arith) (ascending_range (suc from) n)

pub ascending_below : (n : ℕ) → ascending (below n) ≡ true
unfolding below
ascending_below n = ascending_range 0 n

pub ascending_keep : (p : ℕ → Bool) (xs : List ℕ) → ascending xs ≡ true → ascending (keep p xs) ≡ true
unfolding keep
ascending_keep p [] h = h
ascending_keep p (x ∷ xs) h = go (p x) (ascending_keep p xs (ascending_tail x xs h))
  where
    go : (b : Bool) → ascending (keep p xs) ≡ true → ascending (cond b (x ∷ keep p xs) (keep p xs)) ≡ true
    go true k = ascending_cons x (keep p xs) (λ z m. ascending_above x xs h (keep_at p xs m).0) k
    go false k = k

-- an ascending list is told by its members
ascending_first : (x y : ℕ) (xs ys : List ℕ) → ascending (x ∷ xs) ≡ true → ascending (y ∷ ys) ≡ true → Mem x (y ∷ ys) → Mem y (x ∷ xs) → x ≡ y
ascending_first x y xs ys h k m n =
    ⊎_elim (λ e. e) (λ a. ⊎_elim (λ e. sym e) (λ b. absurd (omega (arith, ascending_above y ys k a, ascending_above x xs h b))) (cases_cons n)) (cases_cons m)

ascending_rest : (x y : ℕ) (xs ys : List ℕ) → ascending (x ∷ xs) ≡ true → x ≡ y → Within (x ∷ xs) (y ∷ ys) → Within xs ys
ascending_rest x y xs ys h e f z m = ⊎_elim (λ q. absurd (omega (arith, ascending_above x xs h m))) (λ n. n) (cases_cons (f z (there m)))

pub ascending_same : (xs ys : List ℕ) → ascending xs ≡ true → ascending ys ≡ true → Within xs ys → Within ys xs → xs ≡ ys
ascending_same [] [] h k f g = refl
ascending_same [] (y ∷ ys) h k f g = absurd (not-nil (g y (here refl)))
ascending_same (x ∷ xs) [] h k f g = absurd (not-nil (f x (here refl)))
ascending_same (x ∷ xs) (y ∷ ys) h k f g =
    let e = ascending_first x y xs ys h k (f x (here refl)) (g y (here refl)) in
    let rest = ascending_same xs ys (ascending_tail x xs h) (ascending_tail y ys k) (ascending_rest x y xs ys h e f) (ascending_rest y x ys xs k (sym e) g) in
    ap (λ (l : List ℕ). x ∷ l) rest ∙ ap (λ (z : ℕ). z ∷ ys) e

-- ascending, from a place on
module _ (l : List ℕ) (i : ℕ) (h : i + 1 < length l) where
  ascending_two : ascending (drop i l) ≡ (ltb (get_or l i 0) (get_or l (i + 1) 0) && ascending (drop (i + 1) l))
  unfolding ascending
  ascending_two = rw (drop_next l i 0 (omega arith), drop_next l (i + 1) 0 h)

  pub ascending_next : get_or l i 0 < get_or l (i + 1) 0 → ascending (drop i l) ≡ ascending (drop (i + 1) l)
  ascending_next k = rw (ascending_two, lt-ltb (get_or l i 0) (get_or l (i + 1) 0) k)

  pub ascending_stop : get_or l (i + 1) 0 ≤ get_or l i 0 → ascending (drop i l) ≡ false
  ascending_stop k = rw (ascending_two, le-ltb (get_or l i 0) (get_or l (i + 1) 0) k)

pub ascending_end : (l : List ℕ) (i : ℕ) → length l ≤ i + 1 → ascending (drop i l) ≡ true
unfolding ascending
ascending_end l i h = go (drop i l) (omega (arith, length-drop i l))
  where
    go : (xs : List ℕ) → length xs ≤ 1 → ascending xs ≡ true
    go [] k = refl
    go (x ∷ []) k = refl
    go (x ∷ (y ∷ ys)) k = absurd (omega arith)
