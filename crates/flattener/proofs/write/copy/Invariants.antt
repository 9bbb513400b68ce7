use Rattle.flattener.proofs.Writing.{Copying}
use Rattle.flattener.proofs.write.copy.Given as goal

abbrev pub invariant-loop-i : goal.invariant-loop-i
invariant-loop-i l = Copying l.initial.out l.at l.from l.start l.size l.out l.i
