-- Laws of signed numbers: how the machine reads them, the floored quotient and remainder as std has them, sums that fit 64 bits,
-- and the relation that a number stands for.
use mathlib.Core.Path.{◌≡◌, refl, ap, ap₂, ◌∙◌}
use mathlib.Core.Bool.{Bool, true, false, cond, ◌&&◌}
use Prim.Native.Nat.{ℕ, zero, suc, ◌+◌, ◌-◌, ◌^◌, ◌≤◌, ◌<◌}
use native.Mathlib.Omega.{arith}
use native.Mathlib.Nat.{div-le_self, lt_trans}
use lib.Dec.{leb, ltb, eqb, lit<}
use lib.IntN.{ℤ, pos, negsuc, sub_ℕ, ◌+ℤ◌}
use lib.ListN.{get_or}
use lib.Signed.{mag, le_z}
use borrow.Author.Tests.{leb-true, ltb-true, eqb-true, lt-ltb, le-ltb, le-leb, eq-eqb, ne_eqb}
use mir.Syntax.{w32, w64}
use mir.Val.{SFits, of_z, to_z}
use mir.ValLaws.{to_z-of_z}
use Rattle.std.specs.Int.{int_div_euclid, int_rem_euclid}
use Rattle.numbers.specs.Integer.{signed, is_divisor, floor_div, floor_mod}
use Rattle.numbers.specs.Relation.{lt, relations}
use Rattle.lists.proofs.Bools.{and_l, and_r, both, same}

-- what the machine reads of a number in 32 bits, and of one cast to 64 bits
pub read_back : (z : ℤ) → mag z < 2 ^ 31 → to_z w32 (of_z w32 z) ≡ z
read_back z h = to_z-of_z w32 z (record { sfits = h })

fits_wide : {z : ℤ} → SFits w32 z → SFits w64 z
fits_wide f = record { sfits = lt_trans f.sfits (lit< tt) }

pub read_wide : (z : ℤ) → SFits w32 z → to_z w64 (of_z w64 (to_z w32 (of_z w32 z))) ≡ z
read_wide z f = ap (λ (v : ℤ). to_z w64 (of_z w64 v)) (to_z-of_z w32 z f) ∙ to_z-of_z w64 z (fits_wide f)

-- the machine compares two numbers as it reads them
pub read_both : {A : Type 0} (f : ℤ → ℤ → A) {x y : ℤ} → SFits w32 x → SFits w32 y → f (to_z w32 (of_z w32 x)) (to_z w32 (of_z w32 y)) ≡ f x y
read_both f {x} {y} g h = ap₂ f (to_z-of_z w32 x g) (to_z-of_z w32 y h)

-- two numbers are the same where their bits are
pub same_bits : (x y : ℤ) → SFits w32 x → SFits w32 y → eqb (of_z w32 x) (of_z w32 y) ≡ (le_z x y && le_z y x)
same_bits (pos a) (pos b) f g =
    same (eqb a b) (leb a b && leb b a)
    (λ h. let e = eqb-true a b h in both (le-leb a b (omega arith)) (le-leb b a (omega arith)))
    (λ h. eq-eqb a b (omega (arith, leb-true a b (and_l _ _ h), leb-true b a (and_r (leb a b) _ h))))
same_bits (pos a) (negsuc b) f g = ne_eqb a (2 ^ 32 - suc b) (λ e. omega (arith, f.sfits, g.sfits))
same_bits (negsuc a) (pos b) f g = ne_eqb (2 ^ 32 - suc a) b (λ e. omega (arith, f.sfits, g.sfits))
same_bits (negsuc a) (negsuc b) f g =
    same (eqb (2 ^ 32 - suc a) (2 ^ 32 - suc b)) (leb b a && leb a b)
    (λ h. let e = eqb-true (2 ^ 32 - suc a) (2 ^ 32 - suc b) h in both (le-leb b a (omega (arith, f.sfits, g.sfits))) (le-leb a b (omega (arith, f.sfits, g.sfits))))
    (λ h. eq-eqb (2 ^ 32 - suc a) (2 ^ 32 - suc b) (omega (arith, leb-true b a (and_l _ _ h), leb-true a b (and_r (leb b a) _ h))))

-- the number that 32 bits mean, below and above the half
pub signed_low : (x : ℕ) → x < 2 ^ 31 → signed x ≡ pos x
unfolding signed
signed_low x h = rw (lt-ltb x (2 ^ 31) h)

pub signed_high : (x : ℕ) → 2 ^ 31 ≤ x → signed x ≡ negsuc (4294967295 - x)
unfolding signed
signed_high x h = rw (le-ltb x (2 ^ 31) h) (ap negsuc (omega arith))

-- how great a sum can be
mag_sub : (a b : ℕ) → mag (sub_ℕ a b) ≤ a + b
mag_sub a b = by_order (ltb a b) refl
  where
    by_order : (t : Bool) → ltb a b ≡ t → mag (cond t (negsuc (b - suc a)) (pos (a - b))) ≤ a + b
    by_order true e = omega arith
    by_order false e = omega arith

mag_add : (x y : ℤ) → mag (x +ℤ y) ≤ mag x + mag y + 1
mag_add (pos a) (pos b) = omega arith
mag_add (pos a) (negsuc b) = omega (arith, mag_sub a (suc b))
mag_add (negsuc a) (pos b) = omega (arith, mag_sub b (suc a))
mag_add (negsuc a) (negsuc b) = omega arith

-- rounded down by a natural number is Euclid's, and what that leaves
pub floored : (z : ℤ) (d : ℕ) → int_div_euclid z (pos d) ≡ floor_div z d
unfolding floor_div
floored (pos n) d = refl
floored (negsuc n) d = refl

pub rest : (z : ℤ) (d : ℕ) → int_rem_euclid z (pos d) ≡ floor_mod z d
unfolding floor_mod
rest (pos n) d = refl
rest (negsuc n) d = ap pos (omega arith)

pub floored_mag : (z : ℤ) (d : ℕ) → mag (floor_div z d) ≤ mag z
unfolding floor_div
floored_mag (pos n) d = div-le_self n d
floored_mag (negsuc n) d = div-le_self n d

pub rest_mag : (z : ℤ) (d : ℕ) → 1 ≤ d → mag (floor_mod z d) < d
unfolding floor_mod
rest_mag (pos n) d h = omega arith
rest_mag (negsuc n) d h = omega arith

-- the sum of a number of 32 bits and a natural one, as the machine reads it in 64 bits
pub sum_read : {x z : ℤ} (n : ℕ) → SFits w32 x → mag z < 2 ^ 63 → z ≡ to_z w32 (of_z w32 x) +ℤ pos n → to_z w64 (of_z w64 z) ≡ x +ℤ pos n
sum_read {x} {z} n f h e = to_z-of_z w64 z (record { sfits = h }) ∙ e ∙ ap (λ (y : ℤ). y +ℤ pos n) (to_z-of_z w32 x f)

-- the number that 32 bits mean
pub signed_is : (u : ℕ) → to_z w32 u ≡ signed u
unfolding signed
signed_is u = refl

-- what can divide
pub divisor_range : (d : ℕ) → is_divisor d ≡ true → (1 ≤ d) × (d < 2 ^ 31)
divisor_range d h = (leb-true 1 d (and_l _ _ h), ltb-true d (2 ^ 31) (and_r (leb 1 d) _ h))

-- the sum of a 32-bit number and a number of 16 bits without sign, and of a 32-bit number and one of some 32 bits
pub total_within : (x : ℤ) (n : ℕ) → SFits w32 x → n < 2 ^ 16 → mag (x +ℤ pos n) < 2 ^ 32
total_within x n f h = omega (arith, mag_add x (pos n), f.sfits)

pub step_fits : (x y : ℤ) → SFits w32 x → mag y < 2 ^ 32 → SFits w64 (x +ℤ y)
step_fits x y f h = record { sfits = omega (arith, mag_add x y, f.sfits) }

-- a number that stands for no relation but the first
pub first_relation : (n : ℕ) → (n ≡ 1 → ⊥) → (n ≡ 2 → ⊥) → (n ≡ 3 → ⊥) → (n ≡ 4 → ⊥) → (n ≡ 5 → ⊥) → get_or relations n lt ≡ lt
unfolding relations
first_relation zero a b c d e = refl
first_relation (suc zero) a b c d e = absurd (a refl)
first_relation (suc (suc zero)) a b c d e = absurd (b refl)
first_relation (suc (suc (suc zero))) a b c d e = absurd (c refl)
first_relation (suc (suc (suc (suc zero)))) a b c d e = absurd (d refl)
first_relation (suc (suc (suc (suc (suc zero))))) a b c d e = absurd (e refl)
first_relation (suc (suc (suc (suc (suc (suc n)))))) a b c d e = refl
