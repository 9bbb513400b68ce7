use mathlib.Core.Path.{◌≡◌}
use Prim.Native.Nat.{◌-◌}
use lib.ListN.{drop}
use Rattle.lists.specs.Lists.{ascending}
use Rattle.steps.proofs.step.ascends.Given as goal

abbrev pub invariant-loop-i : goal.invariant-loop-i
invariant-loop-i l = ascending l.list ≡ ascending (drop (l.i - 1) l.list)
