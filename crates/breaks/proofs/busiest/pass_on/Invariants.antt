use Prim.Native.Nat.{ℕ, ◌+◌, ◌*◌}
use Rattle.break_windows.specs.Found.{Sought}
use Rattle.breaks.proofs.busiest.pass_on.Given as goal

abbrev pub invariant-loop-k : goal.invariant-loop-k
invariant-loop-k l = ((c : ℕ) × Sought l.window l.ticks (l.from + 32 * l.k) c l.best.count l.best.first)
    × ((c : ℕ) → Sought l.window l.ticks l.from c l.initial.best.count l.initial.best.first → Sought l.window l.ticks (l.from + 32 * l.k) c l.best.count l.best.first)
