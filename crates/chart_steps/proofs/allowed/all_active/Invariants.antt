use mathlib.Core.Path.{◌≡◌}
use mathlib.Core.Bool.{true}
use mathlib.Core.List.{map}
use lib.ListN.{drop}
use Rattle.lists.specs.Lists.{all}
use Rattle.steps.specs.Moves.{known}
use Rattle.chart_records.specs.Chart.{Chart, transition_at}
use Rattle.chart_moves.specs.Machine.{active_transition}
use Rattle.chart_steps.specs.Asked.{Prepared}
use Rattle.chart_steps.proofs.allowed.all_active.Given as goal

abbrev pub invariant-loop-m : goal.invariant-loop-m
invariant-loop-m l = (c : Chart) → Prepared l.rest l.counts l.offsets l.given l.complete c → known l.counts.transitions l.list ≡ true → all (active_transition c l.given) (map (transition_at c) l.list) ≡ all (active_transition c l.given) (map (transition_at c) (drop l.m-index l.list))
