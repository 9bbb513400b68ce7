use Prim.Native.Nat.{◌+◌, ◌*◌}
use Rattle.break_windows.specs.Found.{Climbs}
use Rattle.breaks.proofs.order.climbs_to.Given as goal

abbrev pub invariant-loop-k : goal.invariant-loop-k
invariant-loop-k l = Climbs l.ticks (1 + 32 * l.k)
