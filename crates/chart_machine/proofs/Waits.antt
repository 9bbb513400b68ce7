-- The operations on a file, by what its check says.
use mathlib.Core.Path.{◌≡◌}
use mathlib.Core.List.{List}
use Prim.Native.Nat.{ℕ}
use Rattle.reading.specs.Answer.{done, refused, ◌>>=◌}
use Rattle.chart_records.specs.Chart.{Chart}
use Rattle.chart_records.specs.Rules.{chart_of}
use Rattle.chart_moves.specs.Machine.{start, step, wait, longest, start_of, step_of, wait_of, longest_of}
use Rattle.chart_moves.specs.declared.configuration.Configuration.{Configuration}

module _ (file : List ℕ) where
  pub start_refused : {k : ℕ} → chart_of file ≡ refused k → start_of file ≡ refused k
  unfolding start_of ◌>>=◌
  start_refused h = rw h

  pub start_passed : {c : Chart} → chart_of file ≡ done c → start_of file ≡ done (start c)
  unfolding start_of ◌>>=◌
  start_passed h = rw h

  pub step_refused : (σ : Configuration) (ms : List ℕ) {k : ℕ} → chart_of file ≡ refused k → step_of file σ ms ≡ refused k
  unfolding step_of ◌>>=◌
  step_refused σ ms h = rw h

  pub step_passed : (σ : Configuration) (ms : List ℕ) {c : Chart} → chart_of file ≡ done c → step_of file σ ms ≡ step c σ ms
  unfolding step_of ◌>>=◌
  step_passed σ ms h = rw h

  pub wait_refused : (σ : Configuration) (d : ℕ) {k : ℕ} → chart_of file ≡ refused k → wait_of file σ d ≡ refused k
  unfolding wait_of ◌>>=◌
  wait_refused σ d h = rw h

  pub wait_passed : (σ : Configuration) (d : ℕ) {c : Chart} → chart_of file ≡ done c → wait_of file σ d ≡ wait c σ d
  unfolding wait_of ◌>>=◌
  wait_passed σ d h = rw h

  pub longest_refused : (σ : Configuration) {k : ℕ} → chart_of file ≡ refused k → longest_of file σ ≡ refused k
  unfolding longest_of ◌>>=◌
  longest_refused σ h = rw h

  pub longest_passed : (σ : Configuration) {c : Chart} → chart_of file ≡ done c → longest_of file σ ≡ longest c σ
  unfolding longest_of ◌>>=◌
  longest_passed σ h = rw h
