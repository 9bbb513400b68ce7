use Rattle.std.proofs.Common.{◌≡◌, ◌-◌, length, take}
use Rattle.lists.proofs.Loops.{Filled}
use Rattle.paired_run.proofs.carry.first_sixteen.Given as goal

abbrev pub invariant-loop-i : goal.invariant-loop-i
invariant-loop-i l = length l.items ≡ 1024 → Filled 16 (take 16 l.items) l.list l.i

abbrev pub decreases-loop-i : goal.decreases-loop-i
decreases-loop-i l = 16 - l.i
