use mathlib.Core.Path.{◌≡◌}
use Prim.Native.Nat.{ℕ, ◌<◌, ◌≤◌}
use lib.ListN.{length, get_or}
use Rattle.clocks.specs.Clocks.{clock_limit}
use Rattle.clocks.proofs.clock.in_limit.Given as goal

abbrev pub invariant-loop-i : goal.invariant-loop-i
invariant-loop-i l = (length l.clocks ≡ 8) × ((k : ℕ) → k < l.i → get_or l.clocks k 0 ≤ clock_limit)
