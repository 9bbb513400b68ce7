use mathlib.Core.Path.{◌≡◌}
use lib.ListN.{drop}
use Rattle.lists.specs.Lists.{all}
use Rattle.steps.specs.Cases.{takes_part}
use Rattle.steps.proofs.step.all_take_part.Given as goal

abbrev pub invariant-loop-m : goal.invariant-loop-m
invariant-loop-m l = all (takes_part l.channel) l.members ≡ all (takes_part l.channel) (drop l.m-index l.members)
