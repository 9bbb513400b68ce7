use mathlib.Core.Path.{◌≡◌}
use Rattle.chart_records.specs.Chart.{Chart}
use Rattle.chart_tree.specs.Table.{Tabled}
use Rattle.flattening.specs.Flatten.{marked_child}
use Rattle.flatten_tables.proofs.Slots.{start_from}
use Rattle.flatten_tables.proofs.number.marked_child.Given as goal

abbrev pub invariant-loop-s : goal.invariant-loop-s
invariant-loop-s l = (k : Chart) → Tabled k l.tree → marked_child k l.q 0 ≡ start_from k l.q l.s
