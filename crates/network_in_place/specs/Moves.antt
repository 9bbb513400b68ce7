-- What a call in place answers, and what it leaves.
use Rattle.std.specs.Prelude.{◌≡◌, ℕ}
use Rattle.reading.specs.Answer.{Answer}
use Rattle.reading.specs.Verdict.{verdict_number, or_kept}
use Rattle.network_moves.specs.declared.configuration.Configuration.{Configuration}

-- what becomes of a configuration in place, and the number that the call answers with
abbrev pub Moves : Configuration → Answer Configuration → Configuration → ℕ → Type 0
Moves before d after number = (number ≡ verdict_number d) × (after ≡ or_kept before d)
