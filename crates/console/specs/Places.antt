-- What the functions that read a line answer on the way: places in it, and a number or a line with one more.
use Rattle.std.specs.Prelude.{Bool, true, false, cond, not, List, [], ◌∷◌, ℕ, ◌+◌, ◌*◌, ◌-◌, ◌≤◌, ◌<◌, ltb, length, take, drop, set, Option, Some, None}
use Rattle.lists.specs.Lists.{position}
use Rattle.reading.specs.Places.{onward}
use Rattle.console.specs.Script.{is_space, words, shortened}
use Rattle.console.specs.declared.script.Line.{Line}

-- the first place from `at` on whose byte passes, or the end; a place past the end stays
abbrev pub place_of : (ℕ → Bool) → List ℕ → ℕ → ℕ
place_of p s at = at + position p (onward s at)

-- a byte that ends a run of spaces, or one of other bytes
abbrev pub ends_run : Bool → ℕ → Bool
ends_run true b = not (is_space b)
ends_run false b = is_space b

-- the words from a place on, where a word was found there: it, and those after it
abbrev pub words_found : List ℕ → Option (ℕ × ℕ) → List (List ℕ)
words_found s (Some w) = take (w.1 - w.0) (drop w.0 s) ∷ words (onward s w.1)
words_found s None = []

-- a word that was found from a place on lies in s, and has a byte
abbrev pub WordFits : List ℕ → ℕ → Option (ℕ × ℕ) → Type 0
WordFits s at (Some w) = (at ≤ w.0) × (w.0 < w.1) × (w.1 ≤ length s)
WordFits s at None = Unit

-- one digit more; past the largest number of 32 bits the value stays
unfoldable pub with_digit : ℕ → ℕ → ℕ
with_digit n d = cond (ltb 4294967295 n) n (n * 10 + d)

-- a line with one number more, if there is room
unfoldable pub with_number : Line → ℕ → Line
with_number l n = cond (ltb l.count 17) (record { call = l.call; list = set l.list l.count (shortened n); count = l.count + 1 }) l
