-- The value of an expression is the exact one where no operation in it leaves the range, and else none.
use mathlib.Core.Path.{◌≡◌, refl, ap₂, ap, ◌∙◌}
use mathlib.Core.Bool.{Bool, true, false, cond, ◌&&◌}
use Rattle.std.specs.Prelude.{Option, Some, None}
use lib.IntN.{ℤ, ◌+ℤ◌, ◌-ℤ◌, ◌*ℤ◌}
use Rattle.numbers.specs.Integer.{inside, floor_div, floor_mod}
use Rattle.numbers.specs.Value.{exactly, of_two, of_one}
use Rattle.expr.specs.Expression.{constant, variable, sum, difference, product, quotient, remainder, value}
use Rattle.expr.specs.Exact.{exact, all_inside, ValueIsExact}

-- a number where a test holds
abbrev number_if : Bool → ℤ → Option ℤ
number_if b z = cond b (Some z) None

two_numbers : (f : ℤ → ℤ → ℤ) (x y : ℤ) (a b : Bool) → of_two f (number_if a x) (number_if b y) ≡ number_if (a && (b && inside (f x y))) (f x y)
unfolding exactly
two_numbers f x y true true = refl
two_numbers f x y true false = refl
two_numbers f x y false b = refl

one_number : (f : ℤ → ℤ) (x : ℤ) (a : Bool) → of_one f (number_if a x) ≡ number_if a (f x)
one_number f x true = refl
one_number f x false = refl

pub value_is_exact : ValueIsExact
unfolding value exact all_inside
value_is_exact vars (constant z) = refl
value_is_exact vars (variable i) = refl
value_is_exact vars (sum a b) = ap₂ (of_two ◌+ℤ◌) (value_is_exact vars a) (value_is_exact vars b) ∙ two_numbers ◌+ℤ◌ _ _ (all_inside vars a) (all_inside vars b)
value_is_exact vars (difference a b) = ap₂ (of_two ◌-ℤ◌) (value_is_exact vars a) (value_is_exact vars b) ∙ two_numbers ◌-ℤ◌ _ _ (all_inside vars a) (all_inside vars b)
value_is_exact vars (product a b) = ap₂ (of_two ◌*ℤ◌) (value_is_exact vars a) (value_is_exact vars b) ∙ two_numbers ◌*ℤ◌ _ _ (all_inside vars a) (all_inside vars b)
value_is_exact vars (quotient a d) = ap (of_one (λ z. floor_div z d)) (value_is_exact vars a) ∙ one_number (λ z. floor_div z d) _ (all_inside vars a)
value_is_exact vars (remainder a d) = ap (of_one (λ z. floor_mod z d)) (value_is_exact vars a) ∙ one_number (λ z. floor_mod z d) _ (all_inside vars a)
