use Rattle.flatten_alternatives.proofs.Keeping.{Carried}
use Rattle.flatten_alternatives.proofs.ascending.put_in.Given as goal

abbrev pub invariant-loop-i : goal.invariant-loop-i
invariant-loop-i l = Carried l.x l.initial.items l.items l.count l.at l.i l.value
