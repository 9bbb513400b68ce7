-- Completion: for each exit the set that the test of a transition is read from.
use Rattle.std.specs.Prelude.{ℕ, ◌<◌, ◌≡◌, not, ◌&&◌, List, get_or}
use Rattle.lists.specs.Lists.{has, keep}
use Rattle.chart_records.specs.Chart.{Chart, states, basic}
use Rattle.chart_moves.specs.Machine.{is_active, completed}
use Rattle.chart_moves.specs.declared.configuration.Configuration.{Configuration}

-- the active composite states whose active basic states below are all marked with the exit
unfoldable pub complete_set : Chart → Configuration → ℕ → List ℕ
complete_set c σ e = keep (λ m. is_active σ m && (not (basic c m) && completed c σ m e)) (states c)

-- the sets of all eight exits in one table, a row of bits for each state: the set of an exit is that of the states whose row
-- has it
abbrev pub CompleteIn : Chart → Configuration → List ℕ → Type 0
CompleteIn c σ rows = (e : ℕ) → e < 8 → keep (λ m. has (get_or rows m 0) e) (states c) ≡ complete_set c σ e
