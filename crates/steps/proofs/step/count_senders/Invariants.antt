use mathlib.Core.Path.{◌≡◌}
use Prim.Native.Nat.{◌+◌, ◌≤◌}
use lib.ListN.{length, drop}
use Rattle.lists.specs.Lists.{keep}
use Rattle.steps.specs.Cases.{signals_on}
use Rattle.steps.proofs.step.count_senders.Given as goal

abbrev pub invariant-loop-m : goal.invariant-loop-m
invariant-loop-m l = (l.senders ≤ l.m-index)
    × (l.senders + length (keep (signals_on 1 l.channel) (drop l.m-index l.members)) ≡ length (keep (signals_on 1 l.channel) l.members))
