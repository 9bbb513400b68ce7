-- What the check of a file answers, and what it leaves in the table of offsets.
use Rattle.std.specs.Prelude.{ℕ, ◌≤◌, length, replicate, ◌≡◌, List, Result, Ok, Err}
use Rattle.reading.specs.Reading.{Read}
use Rattle.reading.specs.Answer.{Answer, done, refused, unless}
use Rattle.reading.specs.Answer as answer
use Rattle.reading.specs.declared.field.Fault.{Fault}
use Rattle.reading.specs.declared.field.Fault.TheVariants as Fl
use Rattle.reading.specs.declared.refusal.Refusal.{Refusal}
use Rattle.reading.specs.Verdict.{number}
use Rattle.network_records.specs.Network.{Network, numbered, sound}
use Rattle.network_records.specs.Layout.{Laid}
use Rattle.network_records.specs.declared.header.Counts.{Counts}

-- 24 for a length, 25 for a field
abbrev pub fault_number : Fault → ℕ
fault_number Fl.Length = 24
fault_number Fl.Range = 25

-- a network that was read, if it keeps the rules
abbrev pub sound_of : Read Network → Answer Network
sound_of q = answer.◌>>=◌ (numbered q) (λ n. unless 25 (sound n) (done n))

-- the network d is in the bytes where the answer says, or refused by the number that it has
abbrev pub CheckedAs : List ℕ → List ℕ → Answer Network → Result Counts Refusal → Type 0
CheckedAs rest offsets d (Ok k) = (n : Network) × (d ≡ done n) × Laid rest k offsets n
CheckedAs rest offsets d (Err r) = d ≡ refused (number r)

-- a file that is right has its version, length and counts
abbrev pub FindingFits : List ℕ → Result Counts Refusal → Type 0
FindingFits file (Ok k) = 13 ≤ length file
FindingFits file (Err r) = Unit

-- a file that is refused leaves the table of offsets all 0
abbrev pub ClearedIfRefused : List ℕ → Result Counts Refusal → Type 0
ClearedIfRefused offsets (Ok k) = Unit
ClearedIfRefused offsets (Err r) = offsets ≡ replicate 1024 0
