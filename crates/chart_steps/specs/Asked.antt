-- What a step asks of the transitions of a chart.
use Rattle.std.specs.Prelude.{ℕ, Bool, cond, ◌&&◌, List, length}
use Rattle.labels.specs.Label.{receives}
use Rattle.steps.specs.Moves.{maximal}
use Rattle.chart_records.specs.Chart.{Chart, transition_at, home}
use Rattle.chart_records.specs.declared.header.Counts.{Counts}
use Rattle.chart_tree.specs.declared.table.Tree.{Tree}
use Rattle.chart.specs.Ready.{Ready}
use Rattle.chart_moves.specs.Machine.{active_transition}
use Rattle.chart_moves.specs.Completion.{CompleteIn}
use Rattle.chart_moves.specs.declared.configuration.Configuration.{Configuration}

-- what it reads: the records of a chart that keeps the rules, and the sets of completion in a configuration
pub record Prepared (rest : List ℕ) (n : Counts) (offsets : List ℕ) (σ : Configuration) (rows : List ℕ) (c : Chart) : Type 0 where
  pub tree : Tree
  pub ready : Ready rest n offsets tree c
  pub complete : CompleteIn c σ rows

-- the home of a transition that is active and receives on the channel, and 255 of any other
abbrev pub receiving_home : Chart → Configuration → ℕ → ℕ → ℕ
receiving_home c σ channel m = cond (receives (transition_at c m).label channel && active_transition c σ (transition_at c m)) (home c m) 255

-- no further active receiver of the channel fits
abbrev pub is_maximal : Chart → Configuration → ℕ → List ℕ → Bool
is_maximal c σ channel ms =
    maximal (λ m. (transition_at c m).label) (home c) (λ m. active_transition c σ (transition_at c m)) (length c.transitions) channel ms
