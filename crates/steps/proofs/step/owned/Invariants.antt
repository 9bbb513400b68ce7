use mathlib.Core.Path.{◌≡◌}
use mathlib.Core.List.{map}
use lib.ListN.{drop}
use Rattle.lists.specs.Lists.{elem}
use Rattle.steps.specs.Cases.{owner_of}
use Rattle.steps.proofs.step.owned.Given as goal

abbrev pub invariant-loop-m : goal.invariant-loop-m
invariant-loop-m l = elem l.owner (map owner_of l.members) ≡ elem l.owner (map owner_of (drop l.m-index l.members))
