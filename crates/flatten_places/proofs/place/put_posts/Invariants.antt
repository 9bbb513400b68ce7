use mathlib.Core.Path.{◌≡◌}
use mathlib.Core.List.{map}
use Rattle.chart_records.specs.Chart.{Chart}
use Rattle.chart_tree.specs.Table.{Tabled}
use Rattle.flattening.specs.Flatten.{post, automaton}
use Rattle.flatten_places.specs.Tables.{Chartered, Columned}
use Rattle.flatten_places.specs.Filling.{Puts, leaving}
use Rattle.flatten_places.proofs.Placing.{posts_from}
use Rattle.flatten_places.proofs.place.put_posts.Given as goal

abbrev pub invariant-loop-t : goal.invariant-loop-t
invariant-loop-t l = (k : Chart) → Chartered k → Tabled k l.tree → Columned k l.transitions → l.a ≡ automaton k l.q
    → Puts k (map post (leaving k l.q)) (posts_from k l.q l.t) l.initial.table l.table
