-- The value of an expression: a number, or none where an operation in it has an exact result outside signed 32 bits.
-- So it is an `Option ℤ`.
use Rattle.std.specs.Prelude.{ℕ, Bool, false, cond, ℤ, pos, ◌+ℤ◌, ◌-ℤ◌, ◌*ℤ◌, eqb, Option, Some, None, is_some}
use Rattle.numbers.specs.Integer.{inside, floor_div, floor_mod}
use Rattle.numbers.specs.Relation.{Relation, compareℤ}

-- the value that an exact result gives
unfoldable pub exactly : ℤ → Option ℤ
exactly z = cond (inside z) (Some z) None

-- an operation on two values: none if one of them is, or if its exact result is outside
abbrev pub of_two : (ℤ → ℤ → ℤ) → Option ℤ → Option ℤ → Option ℤ
of_two f (Some x) (Some y) = exactly (f x y)
of_two f (Some x) None = None
of_two f None y = None

-- an operation on one value, whose result is never outside
abbrev pub of_one : (ℤ → ℤ) → Option ℤ → Option ℤ
of_one f (Some x) = Some (f x)
of_one f None = None

-- of a sum, difference or product by its code, 2, 3 or 4, from those of its arguments
unfoldable pub combined : ℕ → Option ℤ → Option ℤ → Option ℤ
combined code x y = cond (eqb code 2) (of_two ◌+ℤ◌ x y) (cond (eqb code 3) (of_two ◌-ℤ◌ x y) (of_two ◌*ℤ◌ x y))

-- of a quotient or remainder by its code, 5 or 6
unfoldable pub divided : ℕ → Option ℤ → ℕ → Option ℤ
divided code x d = cond (eqb code 5) (of_one (λ z. floor_div z d) x) (of_one (λ z. floor_mod z d) x)

abbrev pub is_number : Option ℤ → Bool
is_number x = is_some x

-- the number; where there is none, 0, which no step stores
abbrev pub number_of : Option ℤ → ℤ
number_of (Some x) = x
number_of None = pos 0

-- two values stand in a relation: none stands in none of them
abbrev pub compared : Relation → Option ℤ → Option ℤ → Bool
compared r (Some x) (Some y) = compareℤ r x y
compared r (Some x) None = false
compared r None y = false
