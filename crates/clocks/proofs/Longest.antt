-- The longest wait: which waits the ticks left under rows of bounds allow, and what it says of waits that an operation tells
-- the longest.
use mathlib.Core.Path.{◌≡◌, refl, sym, ap, ◌∙◌}
use mathlib.Core.Bool.{Bool, true, false, ◌&&◌}
use mathlib.Core.List.{List, [], ◌∷◌}
use Prim.Native.Nat.{ℕ, ◌+◌, ◌≤◌, ◌<◌}
use native.Mathlib.Omega.{arith}
use native.Mathlib.Decide.{dec_lt}
use borrow.Author.Tests.{leb-true, le-leb}
use lib.Dec.{leb}
use lib.ListN.{length, get_or, get_or-replicate, get_or-eq_default}
use Rattle.lists.specs.Lists.{all}
use Rattle.reading.specs.Answer.{Answer, done, refused, unless, ◌>>=◌}
use Rattle.clocks.specs.Clocks.{clock_limit, no_bound, free, keeps, row_left, all_ticks, limit_left, later, in_limit}
use Rattle.clocks.specs.Longest.{TellsLongest}
use Rattle.lists.proofs.Bools.{and_l, and_r, both}
use Rattle.reading.proofs.Answer.{unless_at, unless_by, refused_not, done_injective}
use Rattle.clocks.proofs.Ticks.{row_left_at, row_left_by}
use Rattle.clocks.proofs.Clocks.{keeps_at, keeps_by, length_later, later_moved, later_stays, limit_at, limit_later}

-- where a row is kept and d ticks are left under it, it is kept so much later: clocks past the first n do not move
pub row_later_at : (n : ℕ) (bs cs : List ℕ) (m d : ℕ) → keeps bs cs ≡ true → 1 ≤ d → d ≤ row_left n bs cs m
    → (keeps bs (later n d cs) ≡ true) × (d ≤ m)
row_later_at n bs cs m d k s h = let w = row_left_at n bs cs m d s h in (keeps_by bs (later n d cs) (each w.1), w.0)
  where
    each : ((i : ℕ) → i < n → i < length bs → i < length cs → (get_or cs i 0 + d ≤ get_or bs i 0) × (get_or cs i 0 + d ≤ clock_limit))
        → (i : ℕ) → i < length bs → get_or (later n d cs) i 0 ≤ get_or bs i 0
    each f i l = elim (dec_lt i n) [
      | yes a ↦ elim (dec_lt i (length cs)) [
        | yes b ↦ rw (later_moved n d cs i a b) (f i a l b).0
        | no b ↦ omega (arith, get_or-eq_default (later n d cs) 0 {n = i} (omega (arith, length_later n d cs)))
      ]
      | no a ↦ rw (later_stays n d cs i (omega arith)) (keeps_at bs cs k i l)
    ]

-- and d ticks are left under a row that is kept so much later, by clocks within the limit
pub row_later_by : (n : ℕ) (bs cs : List ℕ) (m d : ℕ) → keeps bs (later n d cs) ≡ true → in_limit n (later n d cs) ≡ true
    → d ≤ m → d ≤ row_left n bs cs m
row_later_by n bs cs m d k t h = row_left_by n bs cs m d h (λ i a l b. (
  rw (later_moved n d cs i a b) at (keeps_at bs (later n d cs) k i l),
  rw (later_moved n d cs i a b) at (limit_at n (later n d cs) t i a),
))

-- never more than the others
pub row_left_most : (n : ℕ) (bs cs : List ℕ) (m : ℕ) → row_left n bs cs m ≤ m
row_left_most n bs cs m = elim (dec_lt 0 (row_left n bs cs m)) [
  | yes h ↦ (row_left_at n bs cs m (row_left n bs cs m) h (omega arith)).0
  | no h ↦ omega arith
]

-- the same of the limit, of as many clocks as a row has
pub limit_left_at : (n : ℕ) (cs : List ℕ) (d : ℕ) → n ≤ 8 → 1 ≤ d → d ≤ limit_left n cs
    → (in_limit n (later n d cs) ≡ true) × (d ≤ all_ticks)
unfolding limit_left
limit_left_at n cs d few s h =
    let w = row_left_at n free cs all_ticks d s h in
    (limit_later n d cs (λ i a b. (w.1 i a (omega arith) b).1), w.0)

pub limit_left_by : (n : ℕ) (cs : List ℕ) (d : ℕ) → in_limit n (later n d cs) ≡ true → d ≤ all_ticks → d ≤ limit_left n cs
unfolding limit_left
limit_left_by n cs d t h = row_left_by n free cs all_ticks d h (λ i a l b.
    let e = limit_at n (later n d cs) t i a in
    let m = later_moved n d cs i a b in
    (omega (arith, e, m, get_or-replicate 8 i no_bound 0 l), omega (arith, e, m)))

pub limit_left_most : (n : ℕ) (cs : List ℕ) → limit_left n cs ≤ all_ticks
unfolding limit_left
limit_left_most n cs = row_left_most n free cs all_ticks

-- the ticks left under several rows, and m at most
unfoldable pub rows_left : ℕ → List (List ℕ) → List ℕ → ℕ → ℕ
rows_left n [] cs m = m
rows_left n (r ∷ rs) cs m = rows_left n rs cs (row_left n r cs m)

-- clocks keep them all
abbrev pub keeps_all : List (List ℕ) → List ℕ → Bool
keeps_all rs cs = all (λ r. keeps r cs) rs

-- so the laws of one row hold of several
rows_later_at : (n : ℕ) (rs : List (List ℕ)) (cs : List ℕ) (m d : ℕ) → keeps_all rs cs ≡ true → 1 ≤ d → d ≤ rows_left n rs cs m
    → (keeps_all rs (later n d cs) ≡ true) × (d ≤ m)
unfolding rows_left all
rows_later_at n [] cs m d k s h = (refl, h)
rows_later_at n (r ∷ rs) cs m d k s h =
    let w = rows_later_at n rs cs (row_left n r cs m) d (and_r (keeps r cs) _ k) s h in
    let v = row_later_at n r cs m d (and_l (keeps r cs) _ k) s w.1 in
    (both v.0 w.0, v.1)

rows_later_by : (n : ℕ) (rs : List (List ℕ)) (cs : List ℕ) (m d : ℕ) → keeps_all rs (later n d cs) ≡ true → in_limit n (later n d cs) ≡ true
    → d ≤ m → d ≤ rows_left n rs cs m
unfolding rows_left all
rows_later_by n [] cs m d k t h = h
rows_later_by n (r ∷ rs) cs m d k t h =
    rows_later_by n rs cs (row_left n r cs m) d (and_r (keeps r (later n d cs)) _ k) t (row_later_by n r cs m d (and_l (keeps r (later n d cs)) _ k) t h)

rows_left_most : (n : ℕ) (rs : List (List ℕ)) (cs : List ℕ) (m : ℕ) → rows_left n rs cs m ≤ m
unfolding rows_left
rows_left_most n [] cs m = omega arith
rows_left_most n (r ∷ rs) cs m = omega (arith, rows_left_most n rs cs (row_left n r cs m), row_left_most n r cs m)

-- without a clock nothing stops a wait
pub rows_no_clock : (rs : List (List ℕ)) (cs : List ℕ) → rows_left 0 rs cs (limit_left 0 cs) ≡ all_ticks
unfolding limit_left rows_left row_left
rows_no_clock rs cs = go rs
  where
    go : (rs : List (List ℕ)) → rows_left 0 rs cs all_ticks ≡ all_ticks
    go [] = refl
    go (r ∷ rs) = go rs

-- with one no more is left than from it to the limit
pub rows_limited : (n : ℕ) (rs : List (List ℕ)) (cs : List ℕ) → n ≤ 8 → in_limit n cs ≡ true → (i : ℕ) → i < n → i < length cs
    → get_or cs i 0 + rows_left n rs cs (limit_left n cs) ≤ clock_limit
rows_limited n rs cs few t i a b = elim (dec_lt 0 (rows_left n rs cs (limit_left n cs))) [
  | yes s ↦
      let e = limit_left_at n cs _ few s (rows_left_most n rs cs (limit_left n cs)) in
      omega (arith, limit_at n _ e.0 i a, later_moved n (rows_left n rs cs (limit_left n cs)) cs i a b)
  | no s ↦ omega (arith, limit_at n cs t i a)
]

-- an operation that answers m tells the longest wait where just the waits from 1 to m are accepted
pub tells_ticks : {A : Type 0} (m : ℕ) (w : ℕ → Answer A) → m ≤ all_ticks → ((d : ℕ) → 1 ≤ d → d ≤ m → (a : A) × (w d ≡ done a))
    → ((d : ℕ) (a : A) → d ≤ all_ticks → w d ≡ done a → (1 ≤ d) × (d ≤ m)) → TellsLongest (done m) w
tells_ticks m w most all only = record {
  bounded = λ j e. omega (arith, done_injective e);
  accepts = λ j d e s h. all d s (omega (arith, done_injective e));
  within = λ j d e l h. let r = only d _ l h in (r.0, omega (arith, r.1, done_injective e));
  refuses = λ k d e. refused_not (sym e);
}

-- one that answers 0, where none is
pub tells_none : {A : Type 0} (w : ℕ → Answer A) → ((d : ℕ) (a : A) → w d ≡ done a → ⊥) → TellsLongest (done 0) w
tells_none w none = tells_ticks 0 w (omega arith) (λ d s h. absurd (omega arith)) (λ d a l e. absurd (none d a e))

-- one that is refused, where every wait is, with the same number
pub tells_refused : {A : Type 0} (k : ℕ) (w : ℕ → Answer A) → ((d : ℕ) → w d ≡ refused k) → TellsLongest (refused k) w
tells_refused k w none = record {
  bounded = λ j e. refused_not e;
  accepts = λ j d e s h. refused_not e;
  within = λ j d e l h. refused_not e;
  refuses = λ j d e. none d ∙ ap refused (same e);
}
  where
    same : {j : ℕ} → ◌≡◌ {A = Answer ℕ} (refused k) (refused j) → k ≡ j
    same e = cc

-- a test that comes first in both
pub tells_unless : {A : Type 0} (k : ℕ) (b : Bool) (l : Answer ℕ) (w : ℕ → Answer A) → (b ≡ true → TellsLongest l w)
    → TellsLongest (unless k b l) (λ d. unless k b (w d))
unfolding unless
tells_unless k true l w t = t refl
tells_unless k false l w t = tells_refused k (λ d. refused k) (λ d. refl)

-- and what comes first in both and hands something on
pub tells_then : {A B : Type 0} (a : Answer B) (l : B → Answer ℕ) (w : B → ℕ → Answer A) → ((b : B) → a ≡ done b → TellsLongest (l b) (w b))
    → TellsLongest (a >>= l) (λ d. a >>= λ b. w b d)
unfolding ◌>>=◌
tells_then (done b) l w t = t b refl
tells_then (refused k) l w t = tells_refused k (λ d. refused k) (λ d. refl)

-- where a wait tests the limit and then some rows, which are kept now, of the later clocks: the longest is what is left under all
-- rows and to the limit
pub tells_rows : {A : Type 0} (n : ℕ) (rs : List (List ℕ)) (cs : List ℕ) (kept : List ℕ → Bool) (a : ℕ → A) (m : ℕ) → n ≤ 8
    → ((cs : List ℕ) → kept cs ≡ keeps_all rs cs) → kept cs ≡ true → m ≡ rows_left n rs cs (limit_left n cs)
    → TellsLongest (done m) (λ d. unless 22 (leb 1 d && in_limit n (later n d cs)) (unless 21 (kept (later n d cs)) (done (a d))))
tells_rows n rs cs kept a m few same now is =
    tells_ticks m _ (omega (arith, is, rows_left_most n rs cs (limit_left n cs), limit_left_most n cs)) (λ d s h.
    let w = rows_later_at n rs cs (limit_left n cs) d (sym (same cs) ∙ now) s (omega (arith, h, is)) in
    let t = limit_left_at n cs d few s w.1 in
    (a d, unless_by 22 _ (both (le-leb 1 d s) t.0) ∙ unless_by 21 _ (same (later n d cs) ∙ w.0)))
    (λ d b l e.
    let t = unless_at 22 _ _ e in
    let i = and_r (leb 1 d) _ t.0 in
    let k = rows_later_by n rs cs (limit_left n cs) d (sym (same (later n d cs)) ∙ (unless_at 21 _ _ t.1).0) i (limit_left_by n cs d i l) in
    (leb-true 1 d (and_l (leb 1 d) _ t.0), omega (arith, k, is)))

-- of two operations that tell the longest wait the second's is no shorter where it accepts all waits that the first does
tells_most : {A B : Type 0} {l l' : Answer ℕ} {w : ℕ → Answer A} {w' : ℕ → Answer B} {m m' : ℕ} → TellsLongest l w → TellsLongest l' w'
    → l ≡ done m → l' ≡ done m' → ((d : ℕ) → (a : A) × (w d ≡ done a) → (b : B) × (w' d ≡ done b)) → m ≤ m'
tells_most {m = m} {m' = m'} t t' e e' f = elim (dec_lt 0 m) [
  | yes h ↦
      let a = t.accepts m m e h (omega arith) in
      let b = f m a in
      (t'.within m' m e' (t.bounded m e) b.1).1
  | no h ↦ omega arith
]

-- and they are the same where both accept the same waits
pub tells_same : {A B : Type 0} {l l' : Answer ℕ} {w : ℕ → Answer A} {w' : ℕ → Answer B} {m m' : ℕ} → TellsLongest l w → TellsLongest l' w'
    → l ≡ done m → l' ≡ done m' → ((d : ℕ) → (a : A) × (w d ≡ done a) → (b : B) × (w' d ≡ done b))
    → ((d : ℕ) → (b : B) × (w' d ≡ done b) → (a : A) × (w d ≡ done a)) → m ≡ m'
tells_same t t' e e' f g = let a = tells_most t t' e e' f in let b = tells_most t' t e' e g in omega (arith, a, b)
