use mathlib.Core.Path.{◌≡◌}
use lib.Dec.{ltb}
use lib.ListN.{drop}
use Rattle.lists.specs.Lists.{all}
use Rattle.steps.proofs.step.all_below.Given as goal

abbrev pub invariant-loop-m : goal.invariant-loop-m
invariant-loop-m l = all (λ m. ltb m l.count) l.list ≡ all (λ m. ltb m l.count) (drop l.m-index l.list)
