use Prim.Native.Nat.{◌≤◌}
use lib.ListN.{length}
use Rattle.break_windows.specs.Found.{Climbs}
use Rattle.breaks.proofs.order.climbs_on.Given as goal

abbrev pub invariant-loop-end : goal.invariant-loop-end
invariant-loop-end l = (1 ≤ l.end) × (l.end ≤ l.to) × (l.to ≤ length l.ticks) × Climbs l.ticks l.end
