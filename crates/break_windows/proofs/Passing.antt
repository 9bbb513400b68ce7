-- The pass: what it has found after a tick, after several at once, and after the last.
use mathlib.Core.Path.{◌≡◌, refl, sym, ap, ◌∙◌, subst}
use mathlib.Core.Bool.{Bool, true, false, ◌&&◌, and-false}
use mathlib.Core.Logic.{⊎_elim}
use mathlib.Core.List.{List, [], ◌∷◌}
use Prim.Native.Nat.{ℕ, suc, ◌+◌, ◌-◌, ◌≤◌, ◌<◌, max}
use native.Mathlib.Omega.{arith}
use native.Mathlib.Decide.{ℕ_discrete}
use borrow.Author.Tests.{le-leb, eq-eqb, ne_eqb, lt-leb, ltb-true, ltb-false}
use lib.Dec.{leb, ltb, eqb}
use lib.ListN.{length}
use Rattle.lists.specs.Lists.{keep}
use Rattle.lists.proofs.Bools.{decided}
use Rattle.reading.specs.Answer.{done, refused, unless}
use Rattle.break_windows.specs.Breaks.{in_window, within, greatest, greatest_of, most_breaks, first_with, first_of, climbs, counted, answered, busiest_of}
use Rattle.break_windows.specs.Found.{at, Climbs, Bounded, Found, Sought, Reaches}
use Rattle.break_windows.proofs.Climbing.{climbs_by, climbs_places, rank, rank_below, rank_above, rank_within}
use Rattle.break_windows.proofs.Windows.{greatest_most, in_window_lem, window_in, window_far, anywhere, within_ranks, first_at}

-- a pass that has looked at no window
pub bounded_none : (w : ℕ) (ts : List ℕ) (n : ℕ) → Climbs ts n → Bounded w ts n n
bounded_none w ts n c = record { climb = c; reach = omega arith; fewer = λ i h. absurd (omega arith) }

-- the first tick alone is the busiest window
pub found_one : (w : ℕ) (ts : List ℕ) → 1 ≤ w → Found w ts 1 1 (at ts 0)
found_one w ts h = record {
  bound = bounded_none w ts 1 (λ i k. absurd (omega arith));
  start = 0;
  some = omega arith;
  passed = omega arith;
  begins = refl;
  fits = omega arith;
  earliest = λ i k. absurd (omega arith);
}

module _ (w : ℕ) (ts : List ℕ) (n m : ℕ) (1≤n : 1 ≤ n) (b : Bounded w ts n m) (h : at ts (n - 1) ≤ at ts n) where
  -- one tick more, which is not smaller than the one before it
  climb_more : Climbs ts (n + 1)
  climb_more i k = elim (ℕ_discrete (suc i) n) [
    | yes e ↦ let p : at ts i ≡ at ts (n - 1) = ap (at ts) (let z : i ≡ n - 1 = omega arith in z) in
        let q : at ts (suc i) ≡ at ts n = ap (at ts) e in
        omega (arith, p, q)
    | no d ↦ b.climb i (omega arith)
  ]

  -- the window that begins m breaks before it reaches it: one break more
  pub found_grown : in_window w (at ts (n - m)) (at ts n) ≡ true → Found w ts (n + 1) (m + 1) (at ts (n - m))
  found_grown e =
      let k = window_in w (at ts (n - m)) (at ts n) e in
      let c = climb_more in
      record {
        bound = record {
          climb = c;
          reach = omega (arith, b.reach);
          fewer = λ i l. omega (arith, b.fewer i (omega arith), climbs_places ts (n + 1) c (i + m) (i + (m + 1)) (omega arith) l);
        };
        start = n - m;
        some = omega arith;
        passed = omega (arith, b.reach);
        begins = refl;
        fits = let z : at ts (n - m + (m + 1 - 1)) ≡ at ts n = ap (at ts) (let z : n - m + (m + 1 - 1) ≡ n = omega (arith, b.reach) in z) in omega (arith, z);
        earliest = λ i l. let z : at ts (i + (m + 1 - 1)) ≡ at ts (i + m) = ap (at ts) (let z : i + (m + 1 - 1) ≡ i + m = omega arith in z) in omega (arith, z, b.fewer i (omega arith));
      }

  -- it does not: as many as before
  bounded_same : 1 ≤ m → in_window w (at ts (n - m)) (at ts n) ≡ false → Bounded w ts (n + 1) m
  bounded_same o e =
      let c = climb_more in
      let k = window_far w (at ts (n - m)) (at ts n) e (climbs_places ts (n + 1) c (n - m) n (omega arith) (omega arith)) in
      record {
        climb = c;
        reach = omega (arith, b.reach);
        fewer = λ i l. elim (ℕ_discrete (i + m) n) [
          | yes q ↦ let x : at ts i ≡ at ts (n - m) = ap (at ts) (let z : i ≡ n - m = omega arith in z) in
              let y : at ts (i + m) ≡ at ts n = ap (at ts) q in
              omega (arith, x, y)
          | no d ↦ b.fewer i (omega arith)
        ];
      }

pub found_same : (w : ℕ) (ts : List ℕ) (n m f : ℕ) → Found w ts n m f → at ts (n - 1) ≤ at ts n → in_window w (at ts (n - m)) (at ts n) ≡ false → Found w ts (n + 1) m f
found_same w ts n m f F h e = record {
  bound = bounded_same w ts n m (omega (arith, F.some, F.passed)) F.bound h F.some e;
  start = F.start;
  some = F.some;
  passed = omega (arith, F.passed);
  begins = F.begins;
  fits = F.fits;
  earliest = F.earliest;
}

-- the same, said otherwise
pub found_is : {w : ℕ} {ts : List ℕ} {n n' m m' f f' : ℕ} → Found w ts n m f → n ≡ n' → m ≡ m' → f ≡ f' → Found w ts n' m' f'
found_is F a b c = rw (sym a, sym b, sym c) F

pub sought_is : {w : ℕ} {ts : List ℕ} {n n' c m f : ℕ} → Sought w ts n c m f → n ≡ n' → Sought w ts n' c m f
sought_is S a = rw (sym a) S

-- where windows of up to c breaks are passed over
pub sought_found : {w : ℕ} {ts : List ℕ} {n m f : ℕ} (c : ℕ) → c ≤ m → Found w ts n m f → Sought w ts n c m f
sought_found c h F = record { bounded = F.bound; some = F.some; least = h; found = λ l. F }

module _ (w : ℕ) (ts : List ℕ) (n c m f : ℕ) (S : Sought w ts n c m f) (h : at ts (n - 1) ≤ at ts n) where
  begun : 1 ≤ n
  begun = omega (arith, S.some, S.bounded.reach)

  pub sought_grown : in_window w (at ts (n - m)) (at ts n) ≡ true → Sought w ts (n + 1) c (m + 1) (at ts (n - m))
  sought_grown e = sought_found c (omega (arith, S.least)) (found_grown w ts n m begun S.bounded h e)

  pub sought_same : in_window w (at ts (n - m)) (at ts n) ≡ false → Sought w ts (n + 1) c m f
  sought_same e = record { bounded = bounded_same w ts n m begun S.bounded h S.some e; some = S.some; least = S.least; found = λ l. found_same w ts n m f (S.found l) h e }

-- what is sought is found where some window has more than c breaks
pub sought_reached : {w : ℕ} {ts : List ℕ} {m f : ℕ} (c : ℕ) → Reaches w ts (c + 1) → Sought w ts (length ts) c m f → Found w ts (length ts) m f
sought_reached {w} {ts} {m} {f} c R S = S.found (⊎_elim (λ e. ltb-true c m e) (λ e. absurd (none (ltb-false c m e))) (decided (ltb c m)))
  where
    none : m ≤ c → ⊥
    none l =
        let e = R.1.0 in
        let q : m ≡ c = omega (arith, S.least) in
        let far = S.bounded.fewer (e - (c + 1)) (omega (arith, R.1.1, R.1.2)) in
        let x : at ts (e - (c + 1) + m) ≡ at ts (e - 1) = ap (at ts) (let z : e - (c + 1) + m ≡ e - 1 = omega (arith, R.1.1) in z) in
        omega (arith, far, x, (window_in w (at ts (e - (c + 1))) (at ts (e - 1)) R.1.3).1)

-- the window of the breaks from a place up to another
pub window_from : (w : ℕ) (ts : List ℕ) (h e : ℕ) → h ≤ e → in_window w (at ts h) (at ts (e - 1)) ≡ true → in_window w (at ts (e - (e - h))) (at ts (e - 1)) ≡ true
window_from w ts h e l g = ap (λ (i : ℕ). in_window w (at ts i) (at ts (e - 1))) (let z : e - (e - h) ≡ h = omega arith in z) ∙ g

-- numbers of breaks that some window has
pub reaches_one : (w : ℕ) (ts : List ℕ) → 1 ≤ length ts → 1 ≤ w → Reaches w ts 1
reaches_one w ts h k = (omega arith, (1, omega arith, h, in_window_lem w (at ts 0) (at ts 0) (omega arith) (omega arith)))

pub reaches_more :
    (w : ℕ) (ts : List ℕ) (m e r : ℕ) {q : ℕ} → Reaches w ts m → e ≤ length ts → (1 ≤ r) × (r ≤ e) × (in_window w (at ts (e - r)) (at ts (e - 1)) ≡ true) → q ≡ max m r → Reaches w ts q
reaches_more w ts m e r R l B g = ⊎_elim
    (λ k. subst (Reaches w ts) (let z : r ≡ _ = omega (arith, g, ltb-true m r k) in z) (B.0, (e, B.1, l, B.2)))
    (λ k. subst (Reaches w ts) (let z : m ≡ _ = omega (arith, g, ltb-false m r k) in z) R)
    (decided (ltb m r))

-- after the last tick
module _ (w : ℕ) (ts : List ℕ) (m f : ℕ) (F : Found w ts (length ts) m f) where
  climbing : climbs ts ≡ true
  climbing = climbs_by ts F.bound.climb

  -- no window has more than m breaks
  at_most : (s : ℕ) → within w ts s ≤ m
  at_most s = ⊎_elim (λ e. absurd (more (ltb-true _ _ e))) (λ e. ltb-false m (within w ts s) e) (decided (ltb m (within w ts s)))
    where
      more : m < within w ts s → ⊥
      more h =
          let r = within_ranks w ts s in
          let n = rank_within (s + w) ts in
          let low = rank_above s ts climbing (rank s ts) (omega arith) (omega arith) in
          let high = rank_below (s + w) ts climbing (rank s ts + m) (omega arith) in
          let far = F.bound.fewer (rank s ts) (omega arith) in
          omega arith

  -- a break stands at or after the first that is not below it
  rank_first : (i : ℕ) → rank (at ts i) ts ≤ i
  rank_first i = ⊎_elim
      (λ e. let l = rank_below (at ts i) ts climbing i (ltb-true _ _ e) in absurd (omega arith))
      (λ e. ltb-false i (rank (at ts i) ts) e)
      (decided (ltb i (rank (at ts i) ts)))

  -- the window that was found has m breaks
  has_most : within w ts (at ts F.start) ≡ m
  has_most =
      let r = within_ranks w ts (at ts F.start) in
      let low = rank_first F.start in
      omega (arith, r, low, at_most (at ts F.start), reaches)
    where
      reaches : F.start + m ≤ rank (at ts F.start + w) ts
      reaches = ⊎_elim
          (λ e. let l = rank_above (at ts F.start + w) ts climbing (F.start + (m - 1)) (omega (arith, ltb-true (rank (at ts F.start + w) ts) (F.start + m) e)) (omega (arith, F.some, F.passed)) in
          absurd (omega (arith, l, F.begins, F.fits)))
          (λ e. ltb-false _ _ e)
          (decided (ltb (rank (at ts F.start + w) ts) (F.start + m)))

  pub most : most_breaks w ts ≡ m
  unfolding most_breaks
  most =
      let up : most_breaks w ts ≤ m = greatest_most (within w ts) _ m at_most in
      omega (arith, up, anywhere w ts (at ts F.start), has_most)

  -- no window that begins at an earlier break has
  none_earlier : (i : ℕ) → i < F.start → eqb (within w ts (at ts i)) m ≡ false
  none_earlier i h = ne_eqb (within w ts (at ts i)) m (λ e.
      let r = within_ranks w ts (at ts i) in
      let first = rank_first i in
      let low = rank_above (at ts i) ts climbing (rank (at ts i) ts) (omega arith) (omega (arith, F.passed)) in
      let high = rank_below (at ts i + w) ts climbing (rank (at ts i) ts + (m - 1)) (omega (arith, F.some)) in
      let far = F.earliest (rank (at ts i) ts) (omega arith) in
      omega arith)

  -- so it is the answer
  pub found_all : 1 ≤ w → busiest_of w ts ≡ done (counted m f)
  unfolding busiest_of answered first_with unless
  found_all h = rw (le-leb 1 w h, climbing, most) (ap (λ (t : ℕ). done (counted m t)) first)
    where
      first : first_of (λ t. eqb (within w ts t) m) ts ≡ f
      first = first_at (λ t. eqb (within w ts t) m) ts F.start (omega (arith, F.some, F.passed)) (eq-eqb _ m has_most) none_earlier ∙ F.begins

-- no tick at all
pub found_none : (w : ℕ) (ts : List ℕ) → 1 ≤ w → length ts ≡ 0 → busiest_of w ts ≡ done (counted 0 0)
unfolding busiest_of answered first_with first_of climbs most_breaks greatest greatest_of within keep unless
found_none w [] h e = rw (le-leb 1 w h) refl
found_none w (t ∷ ts) h e = absurd (omega arith)

-- a window of no tick, and a tick that is smaller than the one before it
pub no_window : (ts : List ℕ) (w : ℕ) → w ≡ 0 → busiest_of w ts ≡ refused 29
unfolding busiest_of answered unless
no_window ts w e = ap (λ (b : Bool). unless 29 (b && climbs ts) (done (counted (most_breaks w ts) (first_with (most_breaks w ts) w ts)))) (lt-leb 1 w (omega arith))

pub falling : (w : ℕ) (ts : List ℕ) → climbs ts ≡ false → busiest_of w ts ≡ refused 29
unfolding busiest_of answered unless
falling w ts h = rw (h, and-false (leb 1 w)) refl
