use Prim.Native.Nat.{ℕ, ◌≤◌}
use lib.ListN.{length}
use Rattle.break_windows.specs.Found.{Sought}
use Rattle.breaks.proofs.pass.pass.Given as goal

abbrev pub invariant-loop-end : goal.invariant-loop-end
invariant-loop-end l = (1 ≤ l.count)
    × (l.count ≤ l.end)
    × (l.end ≤ l.to)
    × (l.to ≤ length l.ticks)
    × ((c : ℕ) → Sought l.window l.ticks l.from c l.initial.count l.initial.first → Sought l.window l.ticks l.end c l.count l.first)
