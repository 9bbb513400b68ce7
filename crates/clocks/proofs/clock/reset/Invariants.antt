use Rattle.clocks.specs.Clocks.{reset}
use Rattle.lists.proofs.Loops.{Filled}
use Rattle.clocks.proofs.clock.reset.Given as goal

abbrev pub invariant-loop-i : goal.invariant-loop-i
invariant-loop-i l = Filled 8 (reset l.bits l.clocks) l.after l.i
