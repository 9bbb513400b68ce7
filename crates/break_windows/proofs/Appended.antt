-- One tick more at the end of the list, where the ticks come one by one.
use mathlib.Core.Path.{◌≡◌, refl, sym, ◌∙◌}
use mathlib.Core.Bool.{Bool, true, false}
use mathlib.Core.List.{List, [], ◌∷◌, ◌++◌}
use Prim.Native.Nat.{ℕ, suc, ◌+◌, ◌-◌, ◌≤◌, ◌<◌}
use native.Mathlib.Omega.{arith}
use lib.ListN.{length, length-append, get_or-append}
use lib.Seq.{get_or-append_seam}
use Rattle.break_windows.specs.Breaks.{in_window, climbs}
use Rattle.break_windows.specs.Found.{at, Found}
use Rattle.break_windows.proofs.Climbing.{climbs_falls}
use Rattle.break_windows.proofs.Passing.{found_one, found_grown, found_same, found_is}

-- the ticks that were there, and the one after them
at_front : (ts zs : List ℕ) (i : ℕ) → i < length ts → at (ts ++ zs) i ≡ at ts i
at_front ts zs i h = get_or-append ts zs 0 i h

at_end : (ts : List ℕ) (t : ℕ) → at (ts ++ (t ∷ [])) (length ts) ≡ t
at_end ts t = get_or-append_seam ts t [] 0

pub one_longer : (ts : List ℕ) (t : ℕ) → length (ts ++ (t ∷ [])) ≡ length ts + 1
one_longer ts t = length-append ts (t ∷ [])

-- what was found stays so
found_front : (w : ℕ) (ts zs : List ℕ) (m f : ℕ) → Found w ts (length ts) m f → Found w (ts ++ zs) (length ts) m f
found_front w ts zs m f F = record {
  bound = record {
    climb = λ i h. omega (arith, F.bound.climb i h, at_front ts zs i (omega arith), at_front ts zs (suc i) h);
    reach = F.bound.reach;
    fewer = λ i h. omega (arith, F.bound.fewer i h, at_front ts zs i (omega arith), at_front ts zs (i + m) h);
  };
  start = F.start;
  some = F.some;
  passed = F.passed;
  begins = at_front ts zs F.start (omega (arith, F.some, F.passed)) ∙ F.begins;
  fits = omega (arith, F.fits, at_front ts zs (F.start + (m - 1)) (omega (arith, F.some, F.passed)));
  earliest = λ i h. omega (arith, F.earliest i h, at_front ts zs i (omega (arith, F.passed)), at_front ts zs (i + (m - 1)) (omega (arith, F.some, F.passed)));
}

-- the first tick
pub found_first : (w : ℕ) (ts : List ℕ) (t : ℕ) → 1 ≤ w → length ts ≡ 0 → Found w (ts ++ (t ∷ [])) (length (ts ++ (t ∷ []))) 1 t
found_first w [] t h e = found_one w (t ∷ []) h
found_first w (x ∷ ts) t h e = absurd (omega arith)

-- one that is smaller than the last
pub falls_end : (ts : List ℕ) (t : ℕ) → 1 ≤ length ts → t < at ts (length ts - 1) → climbs (ts ++ (t ∷ [])) ≡ false
falls_end ts t h l = climbs_falls (ts ++ (t ∷ [])) (length ts) h (omega (arith, one_longer ts t)) (omega (arith, at_end ts t, at_front ts (t ∷ []) (length ts - 1) (omega arith)))

-- one that is not smaller than the last
module _ (w : ℕ) (ts : List ℕ) (t m f : ℕ) (F : Found w ts (length ts) m f) (l : at ts (length ts - 1) ≤ t) where
  some_ticks : 1 ≤ length ts
  some_ticks = omega (arith, F.some, F.passed)

  last_two : at (ts ++ (t ∷ [])) (length ts - 1) ≤ at (ts ++ (t ∷ [])) (length ts)
  last_two = omega (arith, l, at_end ts t, at_front ts (t ∷ []) (length ts - 1) (omega (arith, some_ticks)))

  begin : at (ts ++ (t ∷ [])) (length ts - m) ≡ at ts (length ts - m)
  begin = at_front ts (t ∷ []) (length ts - m) (omega (arith, F.some, some_ticks))

  same_window : {b : Bool} → in_window w (at ts (length ts - m)) t ≡ b → in_window w (at (ts ++ (t ∷ [])) (length ts - m)) (at (ts ++ (t ∷ [])) (length ts)) ≡ b
  same_window e = rw (begin, at_end ts t) e

  pub found_end_grown : in_window w (at ts (length ts - m)) t ≡ true → Found w (ts ++ (t ∷ [])) (length (ts ++ (t ∷ []))) (m + 1) (at ts (length ts - m))
  found_end_grown e = found_is (found_grown w (ts ++ (t ∷ [])) (length ts) m some_ticks (found_front w ts (t ∷ []) m f F).bound last_two (same_window e)) (sym (one_longer ts t)) refl begin

  pub found_end_same : in_window w (at ts (length ts - m)) t ≡ false → Found w (ts ++ (t ∷ [])) (length (ts ++ (t ∷ []))) m f
  found_end_same e = found_is (found_same w (ts ++ (t ∷ [])) (length ts) m f (found_front w ts (t ∷ []) m f F) last_two (same_window e)) (sym (one_longer ts t)) refl refl
