use mathlib.Core.Path.{◌≡◌}
use Prim.Native.Nat.{ℕ, ◌<◌, ◌≤◌}
use lib.ListN.{length, get_or}
use Rattle.clocks.proofs.clock.keeps.Given as goal

abbrev pub invariant-loop-i : goal.invariant-loop-i
invariant-loop-i l = (length l.bounds ≡ 8) × ((k : ℕ) → k < l.i → get_or l.clocks k 0 ≤ get_or l.bounds k 0)
