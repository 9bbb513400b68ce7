-- The value of an expression as the published definition has it, in whole numbers, and what of it the range allows.
use Rattle.std.specs.Prelude.{Bool, true, cond, ◌&&◌, List, ◌≡◌, ℤ, pos, ◌+ℤ◌, ◌-ℤ◌, ◌*ℤ◌, get_or, Some, None}
use Rattle.numbers.specs.Integer.{inside, floor_div, floor_mod}
use Rattle.expr.specs.Expression.{Expr, constant, variable, sum, difference, product, quotient, remainder, value}

unfoldable pub exact : List ℤ → Expr → ℤ
exact vars (constant z) = z
exact vars (variable i) = get_or vars i (pos 0)
exact vars (sum a b) = exact vars a +ℤ exact vars b
exact vars (difference a b) = exact vars a -ℤ exact vars b
exact vars (product a b) = exact vars a *ℤ exact vars b
exact vars (quotient a d) = floor_div (exact vars a) d
exact vars (remainder a d) = floor_mod (exact vars a) d

-- no sum, difference or product in it has an exact result outside the range
unfoldable pub all_inside : List ℤ → Expr → Bool
all_inside vars (constant z) = true
all_inside vars (variable i) = true
all_inside vars (sum a b) = all_inside vars a && (all_inside vars b && inside (exact vars (sum a b)))
all_inside vars (difference a b) = all_inside vars a && (all_inside vars b && inside (exact vars (difference a b)))
all_inside vars (product a b) = all_inside vars a && (all_inside vars b && inside (exact vars (product a b)))
all_inside vars (quotient a d) = all_inside vars a
all_inside vars (remainder a d) = all_inside vars a

-- the value is the exact one where no operation leaves the range, and else none
abbrev pub ValueIsExact : Type 0
ValueIsExact = (vars : List ℤ) (e : Expr) → value vars e ≡ cond (all_inside vars e) (Some (exact vars e)) None
