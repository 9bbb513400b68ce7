use mathlib.Core.Path.{◌≡◌}
use mathlib.Core.List.{map}
use lib.ListN.{drop}
use Rattle.lists.specs.Lists.{distinct}
use Rattle.steps.specs.Cases.{owner_of}
use Rattle.steps.proofs.step.owners_distinct.Given as goal

abbrev pub invariant-loop-i : goal.invariant-loop-i
invariant-loop-i l = distinct (map owner_of l.members) ≡ distinct (map owner_of (drop l.i l.members))
