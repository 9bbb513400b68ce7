-- The longest wait: what an operation that tells it answers, and what its answer says of waits.
use Rattle.std.specs.Prelude.{ℕ, ◌≤◌, ◌≡◌}
use Rattle.reading.specs.Answer.{Answer, done, refused}
use Rattle.reading.specs.Verdict.{verdict_of, verdict_number, or_kept}
use Rattle.clocks.specs.Clocks.{all_ticks}

-- what becomes of ticks that are lent for the answer, and the number that the call answers with
abbrev pub Tells : ℕ → Answer ℕ → ℕ → ℕ → Type 0
Tells before a after number = (number ≡ verdict_number (verdict_of a)) × (after ≡ or_kept before a)

-- of the waits of up to 2 ^ 32 - 1 ticks just those from 1 up to the answer are accepted; where there is no answer, every wait
-- is refused with the same number
pub record TellsLongest {A : Type 0} (longest : Answer ℕ) (wait : ℕ → Answer A) : Type 0 where
  pub bounded : (m : ℕ) → longest ≡ done m → m ≤ all_ticks
  pub accepts : (m d : ℕ) → longest ≡ done m → 1 ≤ d → d ≤ m → (a : A) × (wait d ≡ done a)
  pub within : (m d : ℕ) {a : A} → longest ≡ done m → d ≤ all_ticks → wait d ≡ done a → (1 ≤ d) × (d ≤ m)
  pub refuses : (k d : ℕ) → longest ≡ refused k → wait d ≡ refused k
