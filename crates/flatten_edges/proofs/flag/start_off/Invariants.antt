use Rattle.flatten_edges.proofs.Joining.{OffFrom}
use Rattle.flatten_edges.proofs.flag.start_off.Given as goal

abbrev pub invariant-loop-a : goal.invariant-loop-a
invariant-loop-a l = OffFrom l.exits l.initials l.automata l.exit l.off l.a
