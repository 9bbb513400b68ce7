use mathlib.Core.Bool.{◌&&◌}
use Rattle.chart_moves.specs.declared.configuration.Configuration.{Configuration}
use Rattle.chart_moves.specs.Active.{Shown, linked, single}
use Rattle.chart_records.specs.Chart.{Chart}
use Rattle.lists.specs.Lists.{all, below}
use lib.ListN.{length, drop}
use mathlib.Core.Path.{◌≡◌}
use Rattle.chart_moves.proofs.activity.all_placed.Given as goal

abbrev pub invariant-loop-s : goal.invariant-loop-s
invariant-loop-s l = (c : Chart) (σ : Configuration) → Shown c σ l.parents l.kinds l.active → l.states ≡ length c.states → all (λ s'. linked c σ s' && single c σ s') (below l.states) ≡ all (λ s'. linked c σ s' && single c σ s') (drop l.s (below l.states))
