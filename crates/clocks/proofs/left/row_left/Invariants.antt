use mathlib.Core.Path.{◌≡◌}
use lib.ListN.{length}
use Rattle.clocks.specs.Clocks.{row_left}
use Rattle.clocks.proofs.left.row_left.Given as goal

abbrev pub invariant-loop-i : goal.invariant-loop-i
invariant-loop-i l = (length l.bounds ≡ 8)
    × (length l.clocks ≡ 8)
    × (l.left ≡ row_left l.i l.bounds l.clocks l.ticks)
