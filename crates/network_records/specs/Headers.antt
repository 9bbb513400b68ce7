-- What the reader of a network file's header answers.
use Rattle.std.specs.Prelude.{ℕ, ◌-◌, ◌≤◌, ◌<◌, ◌^◌, length, List, Option, Some, None}
use Rattle.reading.specs.Answer.{Answer, done, refused}
use Rattle.network_records.specs.declared.header.Counts.{Counts}

abbrev pub header_of : Option Counts → Answer Counts
header_of (Some k) = done k
header_of None = refused 24

-- the counts are there, and the places of what follows the length fit 32 bits
abbrev pub HeaderFits : List ℕ → Option Counts → Type 0
HeaderFits file (Some k) = (13 ≤ length file) × (length file - 5 < 2 ^ 32)
HeaderFits file None = Unit
