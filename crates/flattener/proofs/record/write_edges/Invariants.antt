use mathlib.Core.List.{List}
use Rattle.network_records.specs.Network.{Edge}
use Rattle.chart_records.specs.Chart.{Chart}
use Rattle.flattener.specs.Records.{edge_record, Writable}
use Rattle.flattener.proofs.Records.{Listing}
use Rattle.flattener.proofs.record.write_edges.Given as goal

abbrev pub invariant-loop-i : goal.invariant-loop-i
invariant-loop-i l = (c : Chart) (es : List Edge) → Writable l.heads l.count l.rest l.offsets c es → Listing edge_record es l.initial.out l.at l.out l.place l.i
