use lib.ListN.{get_or, length}
use Rattle.chart_records.specs.Tree.{sequentials}
use Rattle.chart_records.specs.Chart.{Chart}
use Rattle.flattening.specs.Flatten.{idle, number}
use Rattle.flatten_places.specs.Tables.{Automated}
use Rattle.flatten_tables.specs.Numbering.{Numbered}
use Rattle.lists.proofs.Loops.{FilledAmong}
use Rattle.flatten_tables.proofs.number.firsts.Given as goal

abbrev pub invariant-loop-a : goal.invariant-loop-a
invariant-loop-a l = (k : Chart) → Automated k l.automata → Numbered k l.numbers → FilledAmong 16 (length (sequentials k)) (λ a. number k (idle (get_or (sequentials k) a 0))) l.first l.a
