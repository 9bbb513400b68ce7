-- Updates: assignments and advances.
use Rattle.std.specs.Prelude.{ℕ, Bool, cond, ◌&&◌, ◌||◌, List, [], ◌∷◌, ℤ, Option, pos, ◌+ℤ◌, leb, ltb, eqb, get_or, set}
use Rattle.lists.specs.Lists.{concat}
use Rattle.reading.specs.Reading.{Reader, yield, ◌>>=◌, byte, byte2, such}
use Rattle.reading.specs.Version.{has_advances}
use Rattle.numbers.specs.Integer.{floor_div, floor_mod}
use Rattle.numbers.specs.Value.{exactly, is_number, number_of}
use Rattle.expr.specs.Expression.{Expr, expression, levels, value}
use Rattle.updates.specs.declared.update.Advance.{Advance}
use Rattle.updates.specs.declared.update.Form.{Form}
use Rattle.updates.specs.declared.update.Form.TheVariants as Fm

-- an advance has two variables, the steps and their remainder, and a ratio. Its whole part is added to the steps, and what it
-- leaves is kept as the remainder. `Advance` and `Form` are the code's types
pub data Update : Type 0 where
  assignment : ℕ → Expr → Update
  advance : Advance → Update

-- an assignment starts with its variable, and an advance, in a version that has them, with 255, which is no variable
unfoldable pub opens : ℕ → ℕ → ℕ → Bool
opens version variables v = ltb v variables || (has_advances version && eqb v 255)

-- what follows the 255 of an advance
unfoldable pub advanced : ℕ → Reader Form
advanced variables = do
  s ← such byte (λ v. ltb v variables)
  r ← such byte (λ v. ltb v variables)
  p ← byte2
  q ← such byte2 (λ q. leb 1 q)
  yield (Fm.Advance (record { steps = s; remainder = r; numerator = p; denominator = q }))

-- the form of an update: an assignment of a variable, its expression left aside, or the whole of an advance
unfoldable pub form : ℕ → ℕ → Reader Form
form version variables = such byte (opens version variables) >>= λ v. cond (eqb v 255) (advanced variables) (yield (Fm.Assignment v))

-- an update of a form: the expression of an assignment follows
unfoldable pub of_form : ℕ → Form → Reader Update
of_form variables (Fm.Assignment v) = expression variables levels >>= λ e. yield (assignment v e)
of_form variables (Fm.Advance a) = yield (advance a)

-- in a file of a version, with so many variables
unfoldable pub update : ℕ → ℕ → Reader Update
update version variables = form version variables >>= of_form variables

abbrev pub form_of : Update → Form
form_of (assignment v e) = Fm.Assignment v
form_of (advance a) = Fm.Advance a

-- the variables that an update of a form writes
abbrev pub writes : Form → List ℕ
writes (Fm.Assignment v) = v ∷ []
writes (Fm.Advance a) = a.steps ∷ a.remainder ∷ []

-- those that some updates write
abbrev pub targets : List Update → List ℕ
targets us = concat (λ u. writes (form_of u)) us

-- the remainder and the numerator, added exactly
unfoldable pub total : List ℤ → Advance → ℤ
total old a = get_or old a.remainder (pos 0) +ℤ pos a.numerator

-- the steps after an advance, as a value: none where they are outside the range. The remainder is always inside
unfoldable pub steps_after : List ℤ → Advance → Option ℤ
steps_after old a = exactly (get_or old a.steps (pos 0) +ℤ floor_div (total old a) a.denominator)

unfoldable pub remainder_after : List ℤ → Advance → ℤ
remainder_after old a = floor_mod (total old a) a.denominator

-- 28: an update stays in the range. Every operation of an assignment counts, and of an advance only what is stored
unfoldable pub stays : List ℤ → Update → Bool
stays old (assignment v e) = is_number (value old e)
stays old (advance a) = is_number (steps_after old a)

-- what an update, which reads `old`, makes of the new variables
unfoldable pub updated : List ℤ → Update → List ℤ → List ℤ
updated old (assignment v e) new = set new v (number_of (value old e))
updated old (advance a) new = set (set new a.steps (number_of (steps_after old a))) a.remainder (remainder_after old a)

-- the variables after some updates, all of which read `old`
unfoldable pub assign : List ℤ → List Update → List ℤ → List ℤ
assign old [] new = new
assign old (u ∷ us) new = assign old us (updated old u new)
