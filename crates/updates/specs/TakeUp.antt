-- The take-up: what the variables of an advance hold after it was made some times.
use Rattle.std.specs.Prelude.{ℕ, zero, suc, ◌*◌, ◌/◌, ◌%◌, ◌^◌, ◌≤◌, ◌<◌, ◌≡◌, Bool, false, ◌&&◌, ◌||◌, List, ℤ, pos, ltb, eqb, get_or}
use Rattle.lists.specs.Lists.{elem}
use Rattle.updates.specs.Update.{Update, assignment, advance, form_of, writes, stays, updated}
use Rattle.updates.specs.declared.update.Advance.{Advance}

-- an update writes either variable of an advance
abbrev pub writes_either : Advance → Update → Bool
writes_either a u = elem a.steps (writes (form_of u)) || elem a.remainder (writes (form_of u))

-- an update is an advance of these two variables
unfoldable pub is_advance : Advance → Update → Bool
is_advance a (assignment v e) = false
is_advance a (advance b) = eqb a.steps b.steps && eqb a.remainder b.remainder

-- the variables after n advances, one after the other: each reads what the one before it has left
unfoldable pub advanced_by : ℕ → Advance → List ℤ → List ℤ
advanced_by zero a variables = variables
advanced_by (suc n) a variables = let vars = advanced_by n a variables in updated vars (advance a) vars

-- after k advances of p/q from zero the steps are the whole part of kp/q, while that is below 2,147,483,648, and the
-- remainder is its rest
pub record TakenUp (a : Advance) (k : ℕ) (variables : List ℤ) : Type 0 where
  pub whole : k * a.numerator / a.denominator < 2 ^ 31 → get_or variables a.steps (pos 0) ≡ pos (k * a.numerator / a.denominator)
  pub rest : get_or variables a.remainder (pos 0) ≡ pos (k * a.numerator % a.denominator)

-- where that is so and the whole part is below 2,147,483,648, one advance more stays in the range just if its whole part is below
-- it too: so no advance before is refused (28) on its own account, and the first that would pass it is
abbrev pub AdvanceStays : Type 0
AdvanceStays = (a : Advance) (k : ℕ) (variables : List ℤ) → 1 ≤ a.denominator → TakenUp a k variables → k * a.numerator / a.denominator < 2 ^ 31
    → stays variables (advance a) ≡ ltb (suc k * a.numerator / a.denominator) (2 ^ 31)

-- what so many advances from zero leave where each had to stay in the range: their whole part is below 2,147,483,648, the two
-- variables hold it and its rest, and the next advance stays in the range as long as its whole part is below it
pub record TakenInRange (a : Advance) (k : ℕ) (variables : List ℤ) : Type 0 where
  pub below : k * a.numerator / a.denominator < 2 ^ 31
  pub whole : get_or variables a.steps (pos 0) ≡ pos (k * a.numerator / a.denominator)
  pub rest : get_or variables a.remainder (pos 0) ≡ pos (k * a.numerator % a.denominator)
  pub next : stays variables (advance a) ≡ ltb (suc k * a.numerator / a.denominator) (2 ^ 31)
