-- What the code has of a chart when it writes the network.
use Rattle.std.specs.Prelude.{◌+◌, ◌≡◌, length}
use Rattle.chart_records.specs.Chart.{Chart}
use Rattle.chart_records.specs.Tree.{sequentials}
use Rattle.flattening.specs.Flatten.{all_places, enter_pairs, exit_pairs}
use Rattle.flatten_places.specs.Tables.{Chartered, FixedIn, Columned, Listed}
use Rattle.flatten_tables.specs.Numbering.{Starting}
use Rattle.flatten_tables.specs.declared.summary.Summary.{Summary}

pub record Summed (c : Chart) (s : Summary) : Type 0 where
  pub chartered : Chartered c
  pub version : s.counts.version ≡ c.version
  pub clocks : s.counts.clocks ≡ c.clocks
  pub variables : s.counts.variables ≡ c.variables
  pub rendezvous : s.counts.rendezvous ≡ c.rendezvous
  pub fixed : FixedIn c s.fixed
  pub columned : Columned c s.transitions
  pub listed : Listed c (all_places c) s.places
  pub starting : Starting c s.initials
  pub automata : s.automata ≡ length (sequentials c)
  pub broadcasts : s.broadcasts ≡ c.broadcasts + length (enter_pairs c) + length (exit_pairs c)
