-- The numbers of a request by their places; past the end of the bytes stand zeros.
use Rattle.std.specs.Prelude.{ℕ, ◌+◌, ◌*◌, Bool, List, eqb, ℤ, get_or}
use Rattle.numbers.specs.Integer.{signed}

abbrev pub byte_at : List ℕ → ℕ → ℕ
byte_at s at = get_or s at 0

abbrev pub short_at : List ℕ → ℕ → ℕ
short_at s at = 256 * byte_at s at + byte_at s (at + 1)

abbrev pub word_at : List ℕ → ℕ → ℕ
word_at s at = 256 * (256 * (256 * byte_at s at + byte_at s (at + 1)) + byte_at s (at + 2)) + byte_at s (at + 3)

-- the i-th byte says whether state i is active
abbrev pub mark_at : List ℕ → ℕ → Bool
mark_at s i = eqb (byte_at s i) 1

-- the i-th of signed numbers of four bytes
abbrev pub value_at : List ℕ → ℕ → ℤ
value_at s i = signed (word_at s (4 * i))
