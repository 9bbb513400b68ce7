use Prim.Native.Nat.{◌-◌}
use lib.ListN.{length}
use Rattle.reading.specs.Places.{onward}
use Rattle.console.specs.Script.{words}
use Rattle.console.proofs.Steps.{Stepping}
use Rattle.console.proofs.script.step_of.Given as goal

abbrev pub invariant-loop-from : goal.invariant-loop-from
invariant-loop-from l = Stepping l.line (words (onward l.s l.place)) (words (onward l.s l.at))

abbrev pub decreases-loop-from : goal.decreases-loop-from
decreases-loop-from l = length l.s - l.place
