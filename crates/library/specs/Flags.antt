-- The active states of a chart as C lends them, a byte each.
use Rattle.std.specs.Prelude.{ℕ, Bool, cond, List, map, ltb, eqb, ℤ}
use Rattle.lists.specs.Lists.{all}
use Rattle.reading.specs.Answer.{Answer, done, refused}
use Rattle.chart_records.specs.Rules.{chart_of}
use Rattle.chart_moves.specs.Machine.{step_of, wait_of, longest_of}
use Rattle.chart_moves.specs.declared.configuration.Configuration.{Configuration}

-- each byte is 0 or 1
unfoldable pub are_flags : List ℕ → Bool
are_flags bytes = all (λ b. ltb b 2) bytes

-- the states whose bytes are 1
unfoldable pub flags_of : List ℕ → List Bool
flags_of bytes = map (λ b. eqb b 1) bytes

-- 1 for an active state, and 0 for any other
unfoldable pub bytes_of : List Bool → List ℕ
bytes_of flags = map (λ f. cond f 1 0) flags

-- what is lent to a call of a chart
pub record Lent : Type 0 where
  pub active : List ℕ
  pub variables : List ℤ
  pub clocks : List ℕ

abbrev pub lent : List ℕ → List ℤ → List ℕ → Lent
lent a v c = record { active = a; variables = v; clocks = c }

-- the configuration that is lent, where each byte is 0 or 1
abbrev pub configuration_of : Lent → Configuration
configuration_of l = record { active = flags_of l.active; variables = l.variables; clocks = l.clocks }

-- a configuration as it is lent
abbrev pub lent_of : Configuration → Lent
lent_of σ = record { active = bytes_of σ.active; variables = σ.variables; clocks = σ.clocks }

-- what is lent, after a call: the result, or, where it is refused, what was lent
unfoldable pub lent_after : Lent → Answer Configuration → Lent
lent_after given (done σ) = lent_of σ
lent_after given (refused k) = given

-- the number of the refusal where a byte is neither 0 nor 1: the check's, or 17 where the file passes
abbrev pub number_or : {A : Type 0} → ℕ → Answer A → ℕ
number_or n (done x) = n
number_or n (refused k) = k

unfoldable pub no_flags : List ℕ → ℕ
no_flags file = number_or 17 (chart_of file)

-- what is answered: that for the configuration that the bytes say, where each is 0 or 1
unfoldable pub flagged : {A : Type 0} → List ℕ → Lent → Answer A → Answer A
flagged file l a = cond (are_flags l.active) a (refused (no_flags file))

-- the operations on what is lent
unfoldable pub step_lent : List ℕ → Lent → List ℕ → Answer Configuration
step_lent file l ms = flagged file l (step_of file (configuration_of l) ms)

unfoldable pub wait_lent : List ℕ → Lent → ℕ → Answer Configuration
wait_lent file l d = flagged file l (wait_of file (configuration_of l) d)

unfoldable pub longest_lent : List ℕ → Lent → Answer ℕ
longest_lent file l = flagged file l (longest_of file (configuration_of l))
