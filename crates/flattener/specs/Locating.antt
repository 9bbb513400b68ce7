-- What the code has of a chart's places when it writes the network's locations.
use Rattle.std.specs.Prelude.{ℕ, List}
use Rattle.chart_records.specs.Chart.{Chart}
use Rattle.chart_tree.specs.declared.table.Tree.{Tree}
use Rattle.flattening.specs.Flatten.{all_places}
use Rattle.flatten_places.specs.Tables.{Chartered, Columned, Listed}
use Rattle.flatten_tables.specs.Numbering.{Starting}
use Rattle.flatten_tables.specs.Bounding.{Bounded}
use Rattle.flatten_places.specs.declared.transition.Transitions.{Transitions}
use Rattle.flatten_places.specs.declared.place.Places.{Places}

pub record Located (c : Chart) (tree : Tree) (rows : List (List ℕ)) (transitions : Transitions) (places : Places) (initials : List ℕ) : Type 0 where
  pub chartered : Chartered c
  pub bounded : Bounded c tree rows
  pub columned : Columned c transitions
  pub listed : Listed c (all_places c) places
  pub starting : Starting c initials
