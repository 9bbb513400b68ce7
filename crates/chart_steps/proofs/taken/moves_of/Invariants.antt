use mathlib.Core.Path.{◌≡◌}
use mathlib.Core.Bool.{true}
use mathlib.Core.List.{map}
use lib.ListN.{take}
use Rattle.steps.specs.Moves.{known}
use Rattle.chart_records.specs.Chart.{Chart, transition_at}
use Rattle.chart_records.specs.Laid.{Laid}
use Rattle.chart_moves.specs.Active.{Moved}
use Rattle.chart_records.specs.declared.header.Counts.{Counts}
use Rattle.chart_steps.proofs.taken.moves_of.Given as goal

abbrev pub invariant-loop-m : goal.invariant-loop-m
invariant-loop-m l = (c : Chart) (n : Counts) → Laid l.rest n l.offsets c → known n.transitions l.list ≡ true → Moved (map (transition_at c) (take l.m-index l.list)) l.moves
