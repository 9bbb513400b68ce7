use lib.ListN.{drop}
use Rattle.lists.specs.Lists.{concat}
use Rattle.chart_records.specs.Chart.{Chart}
use Rattle.chart_records.specs.Tree.{sequentials}
use Rattle.chart_tree.specs.Table.{Tabled}
use Rattle.flattening.specs.Flatten.{places, all_places, enter_pairs}
use Rattle.flatten_places.specs.Tables.{Chartered, FixedIn, Columned, Automated, Paired}
use Rattle.flatten_places.specs.Filling.{ListedTo}
use Rattle.flatten_places.proofs.place.places_of.Given as goal

abbrev pub invariant-loop-a : goal.invariant-loop-a
invariant-loop-a l = (k : Chart) → Chartered k → Tabled k l.tree → FixedIn k l.fixed → Columned k l.transitions → Automated k l.automata → Paired (enter_pairs k) l.enters → ListedTo k (all_places k) (concat (places k) (drop l.a (sequentials k))) l.places
