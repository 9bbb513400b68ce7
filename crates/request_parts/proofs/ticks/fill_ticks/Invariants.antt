use Rattle.request_parts.specs.Ticks.{ticks_of}
use Rattle.request_parts.proofs.Fronts.{Writing}
use Rattle.request_parts.proofs.ticks.fill_ticks.Given as goal

abbrev pub invariant-loop-i : goal.invariant-loop-i
invariant-loop-i l = Writing (ticks_of l.s) l.initial.ticks l.ticks l.i
