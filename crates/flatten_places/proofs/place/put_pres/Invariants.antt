use mathlib.Core.Path.{◌≡◌}
use mathlib.Core.List.{map}
use Rattle.chart_records.specs.Chart.{Chart}
use Rattle.chart_records.specs.Tree.{children}
use Rattle.chart_tree.specs.Table.{Tabled}
use Rattle.flattening.specs.Flatten.{pre, pairs, enters_by, automaton, enter_pairs}
use Rattle.flatten_places.specs.Tables.{Paired}
use Rattle.flatten_places.specs.Filling.{Puts}
use Rattle.flatten_places.proofs.Placing.{pres_from}
use Rattle.flatten_places.proofs.place.put_pres.Given as goal

abbrev pub invariant-loop-i : goal.invariant-loop-i
invariant-loop-i l = (k : Chart) → Tabled k l.tree → Paired (enter_pairs k) l.enters → l.a ≡ automaton k l.q
    → Puts k (map pre (pairs (enters_by k) k.entries (children k l.q))) (pres_from k l.q l.i) l.initial.table l.table
