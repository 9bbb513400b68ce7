use mathlib.Core.Path.{◌≡◌}
use lib.ListN.{length, get_or}
use Rattle.chart_records.specs.Chart.{Chart}
use Rattle.chart_tree.specs.Table.{Tabled}
use Rattle.chart_records.specs.Tree.{sequentials}
use Rattle.flattening.specs.Flatten.{number, initial_place}
use Rattle.flatten_places.specs.Tables.{Chartered, Automated}
use Rattle.flatten_tables.specs.Numbering.{Numbered, start_set}
use Rattle.lists.proofs.Loops.{FilledAmong}
use Rattle.flatten_tables.proofs.number.initials.Given as goal

abbrev pub invariant-loop-a : goal.invariant-loop-a
invariant-loop-a l = (k : Chart) → Chartered k → Tabled k l.tree → Automated k l.automata
    → Numbered k l.numbers → l.active ≡ start_set k
    → FilledAmong 16 (length (sequentials k)) (λ a. number k (initial_place k (get_or (sequentials k) a 0))) l.initial' l.a
