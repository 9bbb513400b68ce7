use mathlib.Core.Path.{◌≡◌}
use mathlib.Core.Bool.{true}
use mathlib.Core.List.{map}
use lib.ListN.{drop}
use Rattle.steps.specs.Moves.{known, clocks_after}
use Rattle.chart_records.specs.Chart.{Chart, transition_at}
use Rattle.chart_records.specs.Laid.{Laid}
use Rattle.chart_records.specs.declared.header.Counts.{Counts}
use Rattle.chart_steps.proofs.taken.clocks_after.Given as goal

abbrev pub invariant-loop-m : goal.invariant-loop-m
invariant-loop-m l = (c : Chart) (n : Counts) → Laid l.rest n l.offsets c → known n.transitions l.list ≡ true → clocks_after (map (λ m. (transition_at c m).label) l.list) l.initial.after ≡ clocks_after (map (λ m. (transition_at c m).label) (drop l.m-index l.list)) l.after
