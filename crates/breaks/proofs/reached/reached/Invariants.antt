use Rattle.break_windows.specs.Found.{Reaches}
use Rattle.breaks.proofs.reached.reached.Given as goal

abbrev pub invariant-loop-end : goal.invariant-loop-end
invariant-loop-end l = Reaches l.window l.ticks l.most
