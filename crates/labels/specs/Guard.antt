-- Guards.
use Rattle.std.specs.Prelude.{ℕ, ◌+◌, ◌^◌, Bool, List, [], ◌∷◌, ℤ, ltb, get_or}
use Rattle.reading.specs.Reading.{Reader, yield, ◌>>=◌, byte, byte4, such}
use Rattle.numbers.specs.Value.{compared}
use Rattle.expr.specs.Expression.{Expr, expression, levels, value}
use Rattle.numbers.specs.Relation.{lt, compareℕ, relations}
use Rattle.numbers.specs.declared.relation.Relation.{Relation}

pub data Guard : Type 0 where
  on_data : Relation → Expr → Expr → Guard
  on_clock : ℕ → Relation → ℕ → Guard
  on_difference : ℕ → ℕ → Relation → ℕ → Guard

unfoldable pub relation : Reader Relation
relation = such byte (λ n. ltb n 6) >>= λ n. yield (get_or relations n lt)

-- one of so many clocks
unfoldable pub clock : ℕ → Reader ℕ
clock clocks = such byte (λ c. ltb c clocks)

-- a constant that a clock is compared with
unfoldable pub ticks : Reader ℕ
ticks = such byte4 (λ n. ltb n (2 ^ 31))

unfoldable pub data_guard : ℕ → Reader Guard
data_guard variables = do
  r ← relation
  a ← expression variables levels
  b ← expression variables levels
  yield (on_data r a b)

unfoldable pub clock_guard : ℕ → Reader Guard
clock_guard clocks = do
  c ← clock clocks
  r ← relation
  n ← ticks
  yield (on_clock c r n)

unfoldable pub difference_guard : ℕ → Reader Guard
difference_guard clocks = do
  c ← clock clocks
  d ← clock clocks
  r ← relation
  n ← ticks
  yield (on_difference c d r n)

unfoldable pub guard : ℕ → ℕ → Reader Guard
guard clocks variables = such byte (λ k. ltb k 3) >>= λ k. get_or (data_guard variables ∷ clock_guard clocks ∷ difference_guard clocks ∷ []) k (data_guard variables)

-- a guard holds of variables and clocks; one on variables only where both sides are numbers. c - d ~ n is c ~ d + n
unfoldable pub holds : List ℤ → List ℕ → Guard → Bool
holds vars clocks (on_data r a b) = compared r (value vars a) (value vars b)
holds vars clocks (on_clock c r n) = compareℕ r (get_or clocks c 0) n
holds vars clocks (on_difference c d r n) = compareℕ r (get_or clocks c 0) (get_or clocks d 0 + n)
