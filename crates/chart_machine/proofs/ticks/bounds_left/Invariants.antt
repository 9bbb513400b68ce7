use mathlib.Core.Path.{◌≡◌}
use lib.ListN.{drop}
use Rattle.lists.specs.Lists.{all}
use Rattle.clocks.specs.Clocks.{limit_left}
use Rattle.chart_records.specs.Chart.{Chart, states}
use Rattle.chart_records.specs.Layout.{Stated}
use Rattle.chart_moves.specs.Machine.{ticks_under}
use Rattle.chart_machine.specs.Configured.{bound_kept}
use Rattle.chart_machine.proofs.ticks.bounds_left.Given as goal

abbrev pub invariant-loop-s : goal.invariant-loop-s
invariant-loop-s l = (c : Chart) → Stated l.rest l.counts c
    → (all (bound_kept c l.given) (states c) ≡ all (bound_kept c l.given) (drop l.s (states c)))
    × (ticks_under c l.given (states c) (limit_left c.clocks l.given.clocks) ≡ ticks_under c l.given (drop l.s (states c)) l.ticks)
