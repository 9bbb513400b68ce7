use Rattle.chart_moves.proofs.Destinations.{some_entered}
use Rattle.chart_tree.specs.Table.{Tabled, adding}
use Rattle.chart_moves.specs.Active.{Moved}
use Rattle.chart_records.specs.Rules.{parents, entry_marks}
use Rattle.chart_records.specs.Chart.{Chart, Transition}
use lib.ListN.{take}
use mathlib.Core.List.{List}
use mathlib.Core.Bool.{true}
use mathlib.Core.Path.{◌≡◌}
use Rattle.chart_moves.proofs.moves.enter_all.Given as goal

abbrev pub invariant-loop-i : goal.invariant-loop-i
invariant-loop-i l = (c : Chart) (ts : List Transition) → Tabled c l.t → parents c ≡ true → entry_marks c ≡ true → Moved ts l.moves → l.out ≡ adding 48 c (some_entered c (take l.i ts)) l.initial.out
