use mathlib.Core.Path.{◌≡◌}
use Prim.Native.Nat.{ℕ, ◌+◌, ◌<◌, ◌≤◌}
use lib.ListN.{length, get_or}
use Rattle.clocks.specs.Clocks.{clock_limit, later}
use Rattle.clocks.proofs.clock.later.Given as goal

abbrev pub invariant-loop-i : goal.invariant-loop-i
invariant-loop-i l = (length l.clocks ≡ 8)
    × ((k : ℕ) → k < l.i → get_or l.clocks k 0 + l.ticks ≤ clock_limit)
    × (l.moved ≡ later l.i l.ticks l.clocks)
