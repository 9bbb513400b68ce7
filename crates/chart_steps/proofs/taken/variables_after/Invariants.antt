use mathlib.Core.Path.{◌≡◌}
use mathlib.Core.Bool.{true, ◌&&◌}
use mathlib.Core.List.{map}
use lib.ListN.{drop}
use Rattle.steps.specs.Moves.{known}
use Rattle.lists.specs.Lists.{all, concat}
use Rattle.updates.specs.Update.{stays, assign}
use Rattle.chart_records.specs.Chart.{Chart, transition_at}
use Rattle.chart_records.specs.Laid.{Laid}
use Rattle.chart_steps.proofs.taken.variables_after.Given as goal

abbrev pub invariant-loop-m : goal.invariant-loop-m
invariant-loop-m l = (c : Chart) → Laid l.rest l.counts l.offsets c → known l.counts.transitions l.list ≡ true →
    (all (stays l.old) (concat (λ l. l.body.updates) (map (λ m. (transition_at c m).label) l.list))
    ≡ (l.within && all (stays l.old) (concat (λ l. l.body.updates) (map (λ m. (transition_at c m).label) (drop l.m-index l.list)))))
    × (assign l.old (concat (λ l. l.body.updates) (map (λ m. (transition_at c m).label) l.list)) l.old
    ≡ assign l.old (concat (λ l. l.body.updates) (map (λ m. (transition_at c m).label) (drop l.m-index l.list))) l.values)
