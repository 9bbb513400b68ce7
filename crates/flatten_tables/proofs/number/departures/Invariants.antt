use lib.ListN.{length}
use Rattle.chart_records.specs.Chart.{Chart}
use Rattle.flattening.specs.Flatten.{number, departure}
use Rattle.flatten_places.specs.Tables.{Chartered, Columned}
use Rattle.flatten_tables.specs.Numbering.{Numbered}
use Rattle.lists.proofs.Loops.{FilledAmong}
use Rattle.flatten_tables.proofs.number.departures.Given as goal

abbrev pub invariant-loop-t : goal.invariant-loop-t
invariant-loop-t l = (k : Chart) → Chartered k → Columned k l.transitions → Numbered k l.numbers
    → FilledAmong 64 (length k.transitions) (λ t. number k (departure k t)) l.reached l.t
