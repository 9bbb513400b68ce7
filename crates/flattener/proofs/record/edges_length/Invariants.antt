use mathlib.Core.List.{List}
use Prim.Native.Nat.{◌*◌, ◌≤◌}
use Rattle.network_records.specs.Network.{Edge}
use Rattle.chart_records.specs.Chart.{Chart}
use Rattle.flattener.specs.Records.{edge_record, Writable}
use Rattle.flattener.proofs.Records.{Adding}
use Rattle.flattener.proofs.record.edges_length.Given as goal

abbrev pub invariant-loop-i : goal.invariant-loop-i
invariant-loop-i l = (l.sum ≤ 65550 * l.i) × ((c : Chart) (es : List Edge) → Writable l.heads l.count l.rest l.offsets c es → Adding edge_record es l.sum l.i)
