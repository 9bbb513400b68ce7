-- The test of a bound: what it says that a bound is kept, and which waits the ticks left allow.
use mathlib.Core.Path.{◌≡◌, refl, sym, ap, ◌∙◌}
use mathlib.Core.Bool.{Bool, true, false}
use mathlib.Core.List.{List, [], ◌∷◌}
use Prim.Native.Nat.{ℕ, zero, suc, ◌+◌, ◌-◌, ◌≤◌, ◌<◌, min}
use native.Mathlib.Omega.{arith}
use native.Mathlib.Decide.{dec_le}
use native.Mathlib.Nat.{zero-min, min-zero, suc-min-suc}
use native.Mathlib.Numerals.{add-one}
use borrow.Author.Tests.{le-leb, lt-leb}
use lib.Dec.{leb}
use lib.ListN.{length, get_or}
use Rattle.std.specs.Prelude.{Some, None}
use Rattle.clocks.specs.Clocks.{clock_limit, left_where, ticks_left, is_kept, fewest, row_left}

-- ticks are left just where what is tested is kept
pub where_kept : {b : Bool} (n : ℕ) → b ≡ true → left_where b n ≡ Some n
where_kept n h = rw h

pub where_broken : {b : Bool} (n : ℕ) → b ≡ false → left_where b n ≡ None
where_broken n h = rw h

pub was_kept : (b : Bool) (n : ℕ) {m : ℕ} → Some m ≡ left_where b n → (b ≡ true) × (m ≡ n)
was_kept true n e = (refl, cc)
was_kept false n e = cc

pub was_broken : (b : Bool) (n : ℕ) → None ≡ left_where b n → b ≡ false
was_broken true n e = cc
was_broken false n e = refl

-- a bound that the clock is within leaves ticks, another is broken
pub left_kept : (b c : ℕ) → c ≤ b → ticks_left b c ≡ Some (min b clock_limit - c)
unfolding ticks_left
left_kept b c h = where_kept _ (le-leb c b h)

pub left_broken : (b c : ℕ) → b < c → ticks_left b c ≡ None
unfolding ticks_left
left_broken b c h = where_broken _ (lt-leb c b h)

pub kept_is : (b c : ℕ) → is_kept (ticks_left b c) ≡ leb c b
kept_is b c = elim (dec_le c b) [
  | yes h ↦ ap is_kept (left_kept b c h) ∙ sym (le-leb c b h)
  | no h ↦ ap is_kept (left_broken b c (omega arith)) ∙ sym (lt-leb c b (omega arith))
]

-- d ticks are left, of d others at least, just where the clock is within its bound and the limit so much later
pub fewest_at : (b c m d : ℕ) → 1 ≤ d → d ≤ fewest (ticks_left b c) m → (c + d ≤ b) × (c + d ≤ clock_limit) × (d ≤ m)
fewest_at b c m d s h = elim (dec_le c b) [
  | yes k ↦
      let e : d ≤ min (min b clock_limit - c) m = rw (left_kept b c k) at h in
      (omega (arith, e), omega (arith, e), omega (arith, e))
  | no k ↦
      let e : d ≤ 0 = rw (left_broken b c (omega arith)) at h in
      absurd (omega arith)
]

pub fewest_by : (b c m d : ℕ) → c + d ≤ b → c + d ≤ clock_limit → d ≤ m → d ≤ fewest (ticks_left b c) m
fewest_by b c m d h k l = rw (left_kept b c (omega arith)) (omega arith)

-- the same of a row
pub row_left_at : (n : ℕ) (bs cs : List ℕ) (m d : ℕ) → 1 ≤ d → d ≤ row_left n bs cs m → (d ≤ m) × ((i : ℕ) → i < n → i < length bs → i < length cs → (get_or cs i 0 + d ≤ get_or bs i 0) × (get_or cs i 0 + d ≤ clock_limit))
unfolding row_left
row_left_at zero bs cs m d s h = (h, λ i l. absurd (omega arith))
row_left_at (suc n) [] cs m d s h = (h, λ i l k. absurd (omega arith))
row_left_at (suc n) (b ∷ bs) [] m d s h = (h, λ i l k j. absurd (omega arith))
row_left_at (suc n) (b ∷ bs) (c ∷ cs) m d s h =
    let w = row_left_at n bs cs (fewest (ticks_left b c) m) d s h in
    let e = fewest_at b c m d s w.0 in
    (e.2, go w e)
  where
    go : (d ≤ fewest (ticks_left b c) m) × ((i : ℕ) → i < n → i < length bs → i < length cs → (get_or cs i 0 + d ≤ get_or bs i 0) × (get_or cs i 0 + d ≤ clock_limit))
        → (c + d ≤ b) × (c + d ≤ clock_limit) × (d ≤ m)
        → (i : ℕ) → i < suc n → i < length (b ∷ bs) → i < length (c ∷ cs) → (get_or (c ∷ cs) i 0 + d ≤ get_or (b ∷ bs) i 0) × (get_or (c ∷ cs) i 0 + d ≤ clock_limit)
    go w e zero l k j = (e.0, e.1)
    go w e (suc i) l k j = w.1 i (omega arith) (omega arith) (omega arith)

pub row_left_by : (n : ℕ) (bs cs : List ℕ) (m d : ℕ) → d ≤ m → ((i : ℕ) → i < n → i < length bs → i < length cs → (get_or cs i 0 + d ≤ get_or bs i 0) × (get_or cs i 0 + d ≤ clock_limit)) → d ≤ row_left n bs cs m
unfolding row_left
row_left_by zero bs cs m d h f = h
row_left_by (suc n) [] cs m d h f = h
row_left_by (suc n) (b ∷ bs) [] m d h f = h
row_left_by (suc n) (b ∷ bs) (c ∷ cs) m d h f =
    let e = f 0 (omega arith) (omega arith) (omega arith) in
    row_left_by n bs cs (fewest (ticks_left b c) m) d (fewest_by b c m d e.0 e.1 h)
    (λ i l k j. f (suc i) (omega arith) (omega arith) (omega arith))

-- a row without bounds leaves what there was
pub row_left_none : (n : ℕ) (cs : List ℕ) (m : ℕ) → row_left n [] cs m ≡ m
unfolding row_left
row_left_none zero cs m = refl
row_left_none (suc n) cs m = refl

-- clock by clock
pub row_left_more : (i : ℕ) (bs cs : List ℕ) (m : ℕ) → i < length bs → i < length cs
    → fewest (ticks_left (get_or bs i 0) (get_or cs i 0)) (row_left i bs cs m) ≡ row_left (i + 1) bs cs m
unfolding row_left
row_left_more i bs cs m h k = rw add-one (go i bs cs m h k)
  where
    go : (i : ℕ) (bs cs : List ℕ) (m : ℕ) → i < length bs → i < length cs → fewest (ticks_left (get_or bs i 0) (get_or cs i 0)) (row_left i bs cs m) ≡ row_left (suc i) bs cs m
    go i [] cs m h k = absurd (omega arith)
    go i (b ∷ bs) [] m h k = absurd (omega arith)
    go zero (b ∷ bs) (c ∷ cs) m h k = refl
    go (suc i) (b ∷ bs) (c ∷ cs) m h k = go i bs cs (fewest (ticks_left b c) m) (omega arith) (omega arith)

-- no more clocks than there are bounds
pub row_left_min : (n : ℕ) (bs cs : List ℕ) (m : ℕ) {w : ℕ} → length bs ≡ w → row_left (min n w) bs cs m ≡ row_left n bs cs m
unfolding row_left
row_left_min zero bs cs m {w} e = rw (zero-min w)
row_left_min (suc n) [] cs m e = rw (← e, min-zero)
row_left_min (suc n) (b ∷ bs) [] m e = rw (← e, suc-min-suc n (length bs))
row_left_min (suc n) (b ∷ bs) (c ∷ cs) m e = rw (← e, suc-min-suc n (length bs)) (row_left_min n bs cs (fewest (ticks_left b c) m) refl)
