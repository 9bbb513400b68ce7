use mathlib.Core.Path.{◌≡◌}
use lib.ListN.{drop}
use Rattle.lists.specs.Lists.{all}
use Rattle.chart_records.specs.Chart.{Chart, states}
use Rattle.chart_records.specs.Layout.{Stated}
use Rattle.chart_machine.specs.Configured.{bound_kept}
use Rattle.chart_machine.proofs.operation.bounds_kept.Given as goal

abbrev pub invariant-loop-s : goal.invariant-loop-s
invariant-loop-s l = (c : Chart) → Stated l.rest l.counts c → all (bound_kept c l.given) (states c) ≡ all (bound_kept c l.given) (drop l.s (states c))
