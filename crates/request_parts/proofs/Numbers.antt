-- A list of numbers of two bytes, read one after the other.
use mathlib.Core.Path.{◌≡◌, refl, sym, ap, ◌∙◌, subst}
use mathlib.Core.List.{List, [], ◌∷◌, ◌++◌, map}
use Prim.Native.Nat.{ℕ, zero, suc, ◌+◌, ◌*◌, ◌-◌, ◌/◌, ◌≤◌, ◌<◌}
use native.Mathlib.Omega.{arith}
use lib.ListN.{length, get_or, take, length-map}
use lib.Seq.{take_all, take-suc}
use Rattle.lists.specs.Lists.{below}
use Rattle.reading.specs.Reading.{got, fault, length_fault, byte2, many}
use Rattle.reading.specs.Places.{onward}
use Rattle.lists.proofs.Below.{length_below, get_d_mapped}
use Rattle.reading.proofs.Places.{byte2_some, byte2_none, get_d_onward}
use Rattle.reading.proofs.Many.{Going, going_none, going_more, going_stop, going_all}
use Rattle.request_parts.specs.Parts.{short_at}

-- n numbers that stand in s from a place on
module _ (s : List ℕ) (from n : ℕ) where
  abbrev pub numbers : List ℕ
  numbers = map (λ i. short_at (onward s from) (2 * i)) (below n)

  whole : length numbers ≡ n
  whole = length-map (below n) _ ∙ length_below n

  -- the i-th in the bytes of s
  at_place : (i : ℕ) → i < n → get_or numbers i 0 ≡ 256 * get_or s (from + 2 * i) 0 + get_or s (from + 2 * i + 1) 0
  at_place i h =
      get_d_mapped _ n i 0 h
      ∙ rw (get_d_onward s from (2 * i), get_d_onward s from (2 * i + 1)) (ap (λ (k : ℕ). 256 * get_or s (from + 2 * i) 0 + get_or s k 0) (let z : from + (2 * i + 1) ≡ from + 2 * i + 1 = omega arith in z))

  moved : {u v xs ys : List ℕ} {i j : ℕ} → Going byte2 n (onward s from) u i xs → u ≡ v → i ≡ j → xs ≡ ys → Going byte2 n (onward s from) v j ys
  moved {u} {v} {xs} {ys} {i} {j} G p q e =
      subst (λ w. Going byte2 n (onward s from) w j ys) p (subst (λ k. Going byte2 n (onward s from) u k ys) q (subst (λ zs. Going byte2 n (onward s from) u i zs) e G))

  going : (i : ℕ) → i ≤ n → 2 * i ≤ length s - from → Going byte2 n (onward s from) (onward s (from + 2 * i)) i (take i numbers)
  going zero h l = moved (going_none byte2 n (onward s from)) (ap (onward s) (let z : from ≡ from + 2 * 0 = omega arith in z)) refl refl
  going (suc i) h l =
      moved (going_more byte2 n (onward s from) (going i (omega arith) (omega arith)) (omega arith) (byte2_some s (from + 2 * i) refl (omega arith)))
      (ap (onward s) (let z : from + 2 * i + 2 ≡ from + 2 * suc i = omega arith in z))
      (let z : i + 1 ≡ suc i = omega arith in z)
      (sym (take-suc numbers i 0 (omega (arith, whole)) ∙ ap (λ (x : ℕ). take i numbers ++ (x ∷ [])) (at_place i (omega arith))))

  pub numbers_some : {m : ℕ} → m ≡ length s - from → 2 * n ≤ m → many n byte2 (onward s from) ≡ got numbers (onward s (from + 2 * n))
  numbers_some e l =
      (going_all byte2 n _ (going n (omega arith) (omega (arith, e))) (omega arith)).0
      ∙ ap (λ (xs : List ℕ). got xs (onward s (from + 2 * n))) (take_all n numbers (omega (arith, whole)))

  pub numbers_none : {m : ℕ} → m ≡ length s - from → m < 2 * n → many n byte2 (onward s from) ≡ fault length_fault
  numbers_none e l =
      let i = (length s - from) / 2 in
      going_stop byte2 n _ (going i (omega (arith, e)) (omega arith)) (omega (arith, e)) (byte2_none s (from + 2 * i) refl (omega arith))
