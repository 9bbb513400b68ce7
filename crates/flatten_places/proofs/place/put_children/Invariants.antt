use mathlib.Core.Path.{◌≡◌}
use mathlib.Core.List.{map}
use Rattle.chart_records.specs.Chart.{Chart}
use Rattle.chart_records.specs.Tree.{children}
use Rattle.chart_tree.specs.Table.{Tabled}
use Rattle.flattening.specs.Flatten.{child, automaton}
use Rattle.flatten_places.specs.Tables.{FixedIn}
use Rattle.flatten_places.specs.Filling.{Puts}
use Rattle.flatten_places.proofs.Placing.{children_from}
use Rattle.flatten_places.proofs.place.put_children.Given as goal

abbrev pub invariant-loop-s : goal.invariant-loop-s
invariant-loop-s l = (k : Chart) → Tabled k l.tree → FixedIn k l.fixed → l.a ≡ automaton k l.q
    → Puts k (map child (children k l.q)) (children_from k l.q l.s) l.initial.table l.table
