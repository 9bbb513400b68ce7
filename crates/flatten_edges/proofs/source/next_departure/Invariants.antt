use Rattle.flatten_edges.proofs.Departs.{Lowest}
use Rattle.flatten_edges.proofs.source.next_departure.Given as goal

abbrev pub invariant-loop-k : goal.invariant-loop-k
invariant-loop-k l = Lowest l.departures l.items l.from l.k l.best
