-- What the code notes of the variables that are written, and what it makes of the variables.
use Rattle.std.specs.Prelude.{ℕ, ◌<◌, ◌≡◌, Bool, false, List, ℤ, length, get_or}
use Rattle.lists.specs.Lists.{elem, distinct}
use Rattle.updates.specs.Update.{Update, stays, updated}
use Rattle.updates.specs.declared.update.NewValues.{NewValues}

-- of some variables that were written, in this order: which they are, and whether each was written once
pub record Noted (vs : List ℕ) (seen : List Bool) (once : Bool) : Type 0 where
  pub long : length seen ≡ 256
  pub each : (v : ℕ) → v < 256 → get_or seen v false ≡ elem v vs
  pub first : once ≡ distinct vs

-- the variables after an update, which reads `old`, and whether it stays in the range
abbrev pub new_values : List ℤ → List ℤ → Update → NewValues
new_values old new u = record { values = updated old u new; within = stays old u }
