-- The lines of the input: a tick to a line. Spaces may stand before and after it, and a line may have none.
use Rattle.std.specs.Prelude.{cond, List, [], ◌∷◌, ℕ, ◌-◌, leb, Option, Some, None, Result, Ok, Err}
use Rattle.console.specs.Script.{is_space, is_digit, is_number, decimal, words}
use Rattle.console.specs.Places.{with_digit}
use Rattle.tick_lines.specs.declared.line.Line.{Line}
use Rattle.tick_lines.specs.declared.line.Line.TheVariants as Li
use Rattle.tick_lines.specs.declared.line.Stop.{Stop}
use Rattle.tick_lines.specs.declared.line.Stop.TheVariants as St

-- the tick of a line, none, or that it can have none
abbrev pub Tick : Type 0
Tick = Result (Option ℕ) Stop

-- the tick of a line's words: a number of 32 bits, and no word beside it
unfoldable pub tick_of : List (List ℕ) → Tick
tick_of [] = Ok None
tick_of (w ∷ []) = cond (is_number w) (Ok (Some (decimal w))) (Err St.Bad)
tick_of (w ∷ v ∷ ws) = Err St.Bad

-- the tick of a line
unfoldable pub line_tick : List ℕ → Tick
line_tick s = tick_of (words s)

-- what is known of a line after a byte more
unfoldable pub with_byte : Line → ℕ → Line
with_byte Li.Blank b = cond (is_digit b) (Li.Digits (with_digit 0 (b - 48))) (cond (is_space b) Li.Blank Li.Bad)
with_byte (Li.Digits n) b = cond (is_digit b) (Li.Digits (with_digit n (b - 48))) (cond (is_space b) (Li.Ended n) Li.Bad)
with_byte (Li.Ended n) b = cond (is_space b) (Li.Ended n) Li.Bad
with_byte Li.Bad b = Li.Bad

-- after more bytes
unfoldable pub with_bytes : Line → List ℕ → Line
with_bytes l [] = l
with_bytes l (b ∷ s) = with_bytes (with_byte l b) s

-- a number of 32 bits as a tick
unfoldable pub tick_of_number : ℕ → Tick
tick_of_number n = cond (leb n 4294967295) (Ok (Some n)) (Err St.Bad)

-- the tick of a line that ends
unfoldable pub ended_tick : Line → Tick
ended_tick Li.Blank = Ok None
ended_tick (Li.Digits n) = tick_of_number n
ended_tick (Li.Ended n) = tick_of_number n
ended_tick Li.Bad = Err St.Bad
