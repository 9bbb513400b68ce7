use Rattle.clocks.specs.Clocks.{join}
use Rattle.lists.proofs.Loops.{Filled}
use Rattle.clocks.proofs.clock.join.Given as goal

abbrev pub invariant-loop-i : goal.invariant-loop-i
invariant-loop-i l = Filled 8 (join l.a l.b) l.joined l.i
