use mathlib.Core.Path.{◌≡◌}
use mathlib.Core.Bool.{true}
use Prim.Native.Nat.{◌-◌, ◌≤◌, ◌<◌}
use lib.ListN.{length}
use Rattle.break_windows.specs.Breaks.{in_window}
use Rattle.break_windows.specs.Found.{at}
use Rattle.breaks.proofs.reached.breaks_before.Given as goal

abbrev pub invariant-loop-low : goal.invariant-loop-low
invariant-loop-low l = (l.low ≤ l.high) × (l.high < l.end) × (l.end ≤ length l.ticks) × (in_window l.window (at l.ticks l.high) (at l.ticks (l.end - 1)) ≡ true)

abbrev pub decreases-loop-low : goal.decreases-loop-low
decreases-loop-low l = l.high - l.low
