use mathlib.Core.List.{map}
use Prim.Native.Nat.{◌-◌}
use Rattle.steps.specs.Cases.{owner_of}
use Rattle.lists.proofs.Loops.{Filled}
use Rattle.steps.proofs.step.owners_of.Given as goal

abbrev pub invariant-loop-i : goal.invariant-loop-i
invariant-loop-i l = Filled 16 (map owner_of l.members) l.owners l.i

abbrev pub decreases-loop-i : goal.decreases-loop-i
decreases-loop-i l = 16 - l.i
