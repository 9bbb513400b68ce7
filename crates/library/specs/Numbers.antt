-- Answers as numbers, and a network's configuration as the arrays that are lent.
use Rattle.std.specs.Prelude.{ℕ, List, length, ℤ}
use Rattle.reading.specs.Answer.{Answer, done, refused}
use Rattle.reading.specs.Verdict.{verdict_number, or_kept}
use Rattle.network_moves.specs.Machine as network
use Rattle.network_moves.specs.declared.configuration.Configuration as net

-- 0, or the number of the refusal
unfoldable pub number_of : {A : Type 0} → Answer A → ℕ
number_of a = verdict_number a

-- what is lent, after an operation: the result, or, where it is refused, what was lent
unfoldable pub after : {A : Type 0} → A → Answer A → A
after given a = or_kept given a

-- the length that is lent, after flattening: the network's, or, where it is refused, what was lent
unfoldable pub length_after : ℕ → Answer (List ℕ) → ℕ
length_after given (done s) = length s
length_after given (refused k) = given

-- a network's configuration: locations, flags, variables, clocks
abbrev pub network_parts : List ℕ → List ℕ → List ℤ → List ℕ → net.Configuration
network_parts l f v c = record { locations = l; flags = f; variables = v; clocks = c }

-- what is lent to a network's step, and to its wait, after it
abbrev pub network_stepped : List ℕ → net.Configuration → List ℕ → net.Configuration
network_stepped file σ ms = after σ (network.step_of file σ ms)

abbrev pub network_waited : List ℕ → net.Configuration → ℕ → net.Configuration
network_waited file σ d = after σ (network.wait_of file σ d)
