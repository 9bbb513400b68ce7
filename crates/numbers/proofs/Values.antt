-- Laws of values: which exact results are numbers, and what the operations give of none and of numbers.
use mathlib.Core.Path.{◌≡◌, refl, sym, ap, ◌∙◌}
use mathlib.Core.Bool.{Bool, true, false, cond}
use mathlib.Core.Logic.{◌≢◌}
use Rattle.std.specs.Prelude.{Option, Some, None, SomeIff, Result, Ok, Err, OkIff}
use Rattle.std.specs.Result.{result_ok}
use native.Mathlib.Omega.{arith}
use native.Mathlib.Decide.{dec_lt}
use mir.Syntax.{w32}
use mir.Val.{SFits}
use Prim.Native.Nat.{ℕ, ◌^◌, ◌≤◌, ◌<◌}
use lib.Dec.{eqb}
use lib.IntN.{ℤ, pos, ◌+ℤ◌, ◌-ℤ◌, ◌*ℤ◌}
use lib.Signed.{mag}
use borrow.Author.Tests.{lt-ltb, le-ltb, ne_eqb}
use Rattle.lists.proofs.Bools.{cond_yes, cond_no}
use Rattle.numbers.specs.Integer.{inside, is_divisor, floor_div, floor_mod}
use Rattle.numbers.specs.Relation.{Relation, compareℤ}
use Rattle.numbers.specs.Value.{exactly, of_one, combined, divided, is_number, compared}

-- an exact result inside the range is the number itself, and one outside it is none
pub exactly_inside : (z : ℤ) → mag z < 2 ^ 31 → exactly z ≡ Some z
unfolding exactly
exactly_inside z h = cond_yes (Some z) None (lt-ltb (mag z) (2 ^ 31) h)

pub exactly_outside : (z : ℤ) → 2 ^ 31 ≤ mag z → exactly z ≡ None
unfolding exactly
exactly_outside z h = cond_no (Some z) None (le-ltb (mag z) (2 ^ 31) h)

-- so a result that is there just where the exact one is inside
pub exactly_if : (z : ℤ) (r : Option ℤ) → SomeIff r (SFits w32 z) z → r ≡ exactly z
exactly_if z None h = elim (dec_lt (mag z) (2 ^ 31)) [
  | yes l ↦ absurd (h (record { sfits = l }))
  | no l ↦ sym (exactly_outside z (omega arith))
]
exactly_if z (Some x) h = ap Some h.1 ∙ sym (exactly_inside z h.0.sfits)

pub exactly_cast : {E : Type 0} (z : ℤ) (r : Result ℤ E) → OkIff r (SFits w32 z) z → result_ok r ≡ exactly z
exactly_cast z (Ok x) h = exactly_if z (Some x) h
exactly_cast z (Err e) h = exactly_if z None h

pub exactly_is_number : (z : ℤ) → is_number (exactly z) ≡ inside z
unfolding exactly
exactly_is_number z = go (inside z)
  where
    go : (b : Bool) → is_number (cond b (Some z) None) ≡ b
    go true = refl
    go false = refl

-- a sum, difference or product, by the code
either : (b : Bool) {x y : Option ℤ} → x ≡ None → y ≡ None → None ≡ cond b x y
either true h k = rw h
either false h k = rw k

module _ (code : ℕ) {x : Option ℤ} (y : Option ℤ) where
  pub combined_left : x ≡ None → None ≡ combined code x y
  unfolding combined
  combined_left h = rw h (either (eqb code 2) refl (sym (either (eqb code 3) refl refl)))

  pub combined_right : {a : ℤ} → x ≡ Some a → y ≡ None → None ≡ combined code x y
  unfolding combined
  combined_right h k = rw (h, k) (either (eqb code 2) refl (sym (either (eqb code 3) refl refl)))

module _ {code : ℕ} {x y : Option ℤ} {a b : ℤ} (h : x ≡ Some a) (k : y ≡ Some b) where
  pub combined_sum : code ≡ 2 → exactly (a +ℤ b) ≡ combined code x y
  unfolding combined
  combined_sum e = rw (h, k, e)

  pub combined_difference : code ≡ 3 → exactly (a -ℤ b) ≡ combined code x y
  unfolding combined
  combined_difference e = rw (h, k, e)

  pub combined_product : code ≢ 2 → code ≢ 3 → exactly (a *ℤ b) ≡ combined code x y
  unfolding combined
  combined_product n m = rw (h, k, ne_eqb code 2 n, ne_eqb code 3 m)

-- a quotient or remainder, by the code, if d is a divisor; else a number gives 0
module _ (code d : ℕ) {x : Option ℤ} where
  pub divided_none : x ≡ None → None ≡ cond (is_divisor d) (divided code x d) (of_one (λ z. pos 0) x)
  unfolding divided
  divided_none h = rw h (either (is_divisor d) (sym (either (eqb code 5) refl refl)) refl)

  module _ {a : ℤ} (h : x ≡ Some a) where
    of_number : (b : Bool) {z : ℤ} → Some z ≡ divided code x d → Some (cond b z (pos 0)) ≡ cond b (divided code x d) (of_one (λ z. pos 0) x)
    of_number true e = e
    of_number false e = rw h

    pub divided_quotient : {z : ℤ} → code ≡ 5 → z ≡ cond (is_divisor d) (floor_div a d) (pos 0) → Some z ≡ cond (is_divisor d) (divided code x d) (of_one (λ z. pos 0) x)
    unfolding divided
    divided_quotient e k = ap Some k ∙ of_number (is_divisor d) (rw (h, e))

    pub divided_remainder : {z : ℤ} → code ≢ 5 → z ≡ cond (is_divisor d) (floor_mod a d) (pos 0) → Some z ≡ cond (is_divisor d) (divided code x d) (of_one (λ z. pos 0) x)
    unfolding divided
    divided_remainder n k = ap Some k ∙ of_number (is_divisor d) (rw (h, ne_eqb code 5 n))

-- two numbers in a relation
pub compared_numbers : (r : Relation) {x y : Option ℤ} {a b : ℤ} → x ≡ Some a → y ≡ Some b → compareℤ r a b ≡ compared r x y
compared_numbers r h k = rw (h, k)
