-- Many ticks at once: what the tests of a block say of each tick, and what the pass has found after them.
use mathlib.Core.Path.{◌≡◌, refl, sym, ap, ◌∙◌, subst}
use mathlib.Core.Bool.{Bool, true, false, ◌&&◌}
use mathlib.Core.Logic.{inr, ⊎_elim}
use mathlib.Core.List.{List}
use Prim.Native.Nat.{ℕ, zero, suc, ◌+◌, ◌-◌, ◌≤◌, ◌<◌}
use native.Mathlib.Omega.{arith}
use borrow.Author.Tests.{leb-true, leb-false, le-ltb, ltb-true, ltb-false}
use lib.Dec.{ltb}
use lib.ListN.{length}
use Rattle.std.specs.Prelude.{Option}
use Rattle.lists.specs.Lists.{all, below, range}
use Rattle.lists.proofs.Bools.{and_l, and_r, cond_no, decided}
use Rattle.lists.proofs.Lists.{all_more, all_not}
use Rattle.lists.proofs.Below.{below_more, all_below, below_at}
use Rattle.break_windows.specs.Breaks.{in_window, climbs}
use Rattle.break_windows.specs.Found.{at, Climbs, Bounded, Found, Sought}
use Rattle.breaks.specs.Passes.{climbs_at, block_climbs, apart, quiet_at, block_quiet, PassedTo, grown_where}
use Rattle.break_windows.specs.declared.window.Best.{Best}
use Rattle.break_windows.proofs.Climbing.{climbs_places, climbs_falls}
use Rattle.break_windows.proofs.Windows.{in_window_lem, window_in, window_out}
use Rattle.break_windows.proofs.Passing.{found_grown, found_is, sought_is, sought_found, sought_same}

-- a test of the numbers below a bound, one by one
pub tested_none : (p : ℕ → Bool) → true ≡ all p (below 0)
unfolding all below range
tested_none p = refl

pub tested_more : (p : ℕ → Bool) (k : ℕ) {b c : Bool} → b ≡ all p (below k) → c ≡ p k → (b && c) ≡ all p (below (k + 1))
tested_more p k e f = rw (e, f) (sym (ap (all p) (below_more k) ∙ all_more p (below k) k))

pub tested_all : (p : ℕ → Bool) {k : ℕ} (n : ℕ) {b : Bool} → b ≡ all p (below k) → k ≤ n → n ≤ k → b ≡ all p (below n)
tested_all p {k} n e h l = e ∙ ap (λ (i : ℕ). all p (below i)) (let z : k ≡ n = omega arith in z)

-- how far a tick is from another
pub apart_most : (s t : ℕ) → s ≤ t → t - s ≡ apart s t
apart_most s t h = sym (cond_no _ _ (le-ltb t s h))

-- a test of each place of a block
abbrev Each : (ℕ → Bool) → ℕ → ℕ → Type 0
Each p n k = (i : ℕ) → n ≤ i → i < n + k → p i ≡ true

pub block_each : (p : ℕ → Bool) (n k : ℕ) → all (λ j. p (n + j)) (below k) ≡ true → Each p n k
block_each p n k h i l g = ap p (let z : i ≡ n + (i - n) = omega arith in z) ∙ all_below (λ j. p (n + j)) k h (i - n) (omega arith)

-- the places of a block from the second on
each_next : (p : ℕ → Bool) (n k : ℕ) → Each p n (suc k) → Each p (n + 1) k
each_next p n k g i l h = g i (omega arith) (omega arith)

module _ (w : ℕ) (ts : List ℕ) where
  -- each tick is in the window that begins at s, which is the window found: it grows with each
  grown : (k n m s : ℕ) → Found w ts n m s → at ts (n - m) ≡ s → Each (climbs_at ts) n k → Each (λ i. in_window w s (at ts i)) n k → Found w ts (n + k) (m + k) s
  grown zero n m s F e g h = found_is F (omega arith) (omega arith) refl
  grown (suc k) n m s F e g h =
      let l = leb-true (at ts (n - 1)) (at ts n) (g n (omega arith) (omega arith)) in
      let F' = found_grown w ts n m (omega (arith, F.some, F.passed)) F.bound l (ap (λ (x : ℕ). in_window w x (at ts n)) e ∙ h n (omega arith) (omega arith)) in
      let e' : at ts (n + 1 - (m + 1)) ≡ at ts (n - m) = ap (at ts) (let z : n + 1 - (m + 1) ≡ n - m = omega arith in z) in
      found_is (grown k (n + 1) (m + 1) s (found_is F' refl refl e) (e' ∙ e) (each_next (climbs_at ts) n k g) (each_next (λ i. in_window w s (at ts i)) n k h)) (omega arith) (omega arith) refl

  -- ticks that climb
  climb_to : (n k : ℕ) → Climbs ts n → Each (climbs_at ts) n k → Climbs ts (n + k)
  climb_to n k c g i l = ⊎_elim
      (λ e. c i (ltb-true (suc i) n e))
      (λ e. let a : at ts (suc i - 1) ≡ at ts i = ap (at ts) (let z : suc i - 1 ≡ i = omega arith in z) in
      omega (arith, a, leb-true (at ts (suc i - 1)) (at ts (suc i)) (g (suc i) (ltb-false (suc i) n e) l)))
      (decided (ltb (suc i) n))

  -- the last of them is in the window that begins m breaks before them: each grows it
  found_block : (n m : ℕ) → 1 ≤ n → 1 ≤ m → Bounded w ts n m → (k : ℕ) → Each (climbs_at ts) n (suc k) → in_window w (at ts (n - m)) (at ts (n + k)) ≡ true →
      Found w ts (n + suc k) (m + suc k) (at ts (n - m))
  found_block n m 1≤n 1≤m b k g e =
      let F' = found_grown w ts n m 1≤n b (leb-true (at ts (n - 1)) (at ts n) (g n (omega arith) (omega arith))) (inside n (omega arith) (omega arith)) in
      let e' : at ts (n + 1 - (m + 1)) ≡ at ts (n - m) = ap (at ts) (let z : n + 1 - (m + 1) ≡ n - m = omega arith in z) in
      found_is
      (grown k (n + 1) (m + 1) (at ts (n - m)) F' e' (each_next (climbs_at ts) n k g) (each_next (λ i. in_window w (at ts (n - m)) (at ts i)) n k inside))
      (omega arith)
      (omega arith)
      refl
    where
      c : Climbs ts (n + suc k)
      c = climb_to n (suc k) b.climb g

      inside : Each (λ i. in_window w (at ts (n - m)) (at ts i)) n (suc k)
      inside i h l = in_window_lem w (at ts (n - m)) (at ts i)
          (climbs_places ts (n + suc k) c (n - m) i (omega arith) l)
          (omega (arith, (window_in w (at ts (n - m)) (at ts (n + k)) e).1, climbs_places ts (n + suc k) c i (n + k) (omega arith) (omega arith)))

  -- a tick that is quiet is not in the window that begins m breaks before it
  quiet_out : (n m : ℕ) → 1 ≤ n → 1 ≤ m → Bounded w ts n m → quiet_at w m ts n ≡ true → in_window w (at ts (n - m)) (at ts n) ≡ false
  quiet_out n m 1≤n 1≤m b h =
      let g = leb-true (at ts (n - 1)) (at ts n) (and_l (climbs_at ts n) _ h) in
      let l : at ts (n - m) ≤ at ts n = omega (arith, g, climbs_places ts n b.climb (n - m) (n - 1) (omega arith) (omega arith)) in
      let d = leb-true w (apart (at ts (n - m)) (at ts n)) (and_r (climbs_at ts n) _ h) in
      window_out w (at ts (n - m)) (at ts n) (inr (omega (arith, l, d, apart_most (at ts (n - m)) (at ts n) l)))

  -- ticks that are quiet: as many as before
  sought_quiet : (k n c m f : ℕ) → Sought w ts n c m f → Each (quiet_at w m ts) n k → Sought w ts (n + k) c m f
  sought_quiet zero n c m f S g = sought_is S (omega arith)
  sought_quiet (suc k) n c m f S g =
      let h = g n (omega arith) (omega arith) in
      let S' = sought_same w ts n c m f S (leb-true (at ts (n - 1)) (at ts n) (and_l (climbs_at ts n) _ h)) (quiet_out n m (omega (arith, S.some, S.bounded.reach)) S.some S.bounded h) in
      sought_is (sought_quiet k (n + 1) c m f S' (each_next (quiet_at w m ts) n k g)) (omega arith)

pub climbs_next : (ts : List ℕ) (n : ℕ) → Climbs ts n → climbs_at ts n ≡ true → Climbs ts (n + 1)
climbs_next ts n c h = climb_to 0 ts n 1 c (λ i l g. subst (λ (x : ℕ). climbs_at ts x ≡ true) (let z : n ≡ i = omega arith in z) h)

pub climbs_is : (ts : List ℕ) {n k : ℕ} → Climbs ts n → n ≡ k → Climbs ts k
climbs_is ts c e = subst (Climbs ts) e c

-- what the tests of a whole block say
pub block_falls : (ts : List ℕ) (n : ℕ) → 1 ≤ n → n + 32 ≤ length ts → block_climbs ts n ≡ false → climbs ts ≡ false
unfolding block_climbs
block_falls ts n h l e =
    let r = all_not (λ j. climbs_at ts (n + j)) (below 32) e in
    let k = below_at 32 r.1 in
    climbs_falls ts (n + r.0) (omega arith) (omega arith) (leb-false _ _ r.2)

pub block_climbs_lem : (ts : List ℕ) (n : ℕ) → Climbs ts n → block_climbs ts n ≡ true → Climbs ts (n + 32)
unfolding block_climbs
block_climbs_lem ts n c h = climb_to 0 ts n 32 c (block_each (climbs_at ts) n 32 h)

block_grown :
    (w : ℕ) (ts : List ℕ) (n c m f : ℕ) → Sought w ts n c m f → block_climbs ts n ≡ true → in_window w (at ts (n - m)) (at ts (n + 31)) ≡ true →
    Sought w ts (n + 32) c (m + 32) (at ts (n - m))
unfolding block_climbs
block_grown w ts n c m f S h e = sought_found c (omega (arith, S.least)) (found_block w ts n m (omega (arith, S.some, S.bounded.reach)) S.some S.bounded 31 (block_each (climbs_at ts) n 32 h) e)

pub block_passed :
    (w : ℕ) (ts : List ℕ) (n c m f : ℕ) {r : Option Best} → Sought w ts n c m f → n + 32 ≤ length ts →
    in_window w (at ts (n - m)) (at ts (n + 31)) ≡ true → r ≡ grown_where (block_climbs ts n) m (at ts (n - m)) → PassedTo w ts (n + 32) c r
block_passed w ts n c m f S l e g = rw g (⊎_elim
    (λ b. rw b (block_grown w ts n c m f S b e))
    (λ b. rw b (block_falls ts n (omega (arith, S.some, S.bounded.reach)) l b))
    (decided (block_climbs ts n)))

pub block_quiet_lem : (w : ℕ) (ts : List ℕ) (n c m f : ℕ) → Sought w ts n c m f → block_quiet w m ts n ≡ true → Sought w ts (n + 32) c m f
unfolding block_quiet
block_quiet_lem w ts n c m f S h = sought_quiet w ts 32 n c m f S (block_each (quiet_at w m ts) n 32 h)
