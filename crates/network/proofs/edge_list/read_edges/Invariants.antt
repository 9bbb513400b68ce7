use Rattle.network_records.proofs.Edges.{Edging}
use Rattle.network.proofs.edge_list.read_edges.Given as goal

abbrev pub invariant-loop-i : goal.invariant-loop-i
invariant-loop-i l = Edging l.counts l.rest l.at l.place l.i l.once l.initial.offsets l.offsets
