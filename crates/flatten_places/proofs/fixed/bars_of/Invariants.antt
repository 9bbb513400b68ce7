use Rattle.flatten_places.proofs.Fixing.{Barred}
use Rattle.flatten_places.proofs.fixed.bars_of.Given as goal

abbrev pub invariant-loop-s : goal.invariant-loop-s
invariant-loop-s l = Barred l.kinds l.exits l.bars l.s
