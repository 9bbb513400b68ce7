use mathlib.Core.Path.{◌≡◌}
use Prim.Native.Nat.{◌+◌, ◌≤◌}
use Rattle.lists.specs.Lists.{all, below}
use Rattle.breaks.specs.Passes.{quiet_at}
use Rattle.breaks.proofs.block.block_quiet.Given as goal

abbrev pub invariant-loop-k : goal.invariant-loop-k
invariant-loop-k l = (l.k ≤ 32) × (l.quiet ≡ all (λ j. quiet_at l.window l.count l.ticks (l.from + j)) (below l.k))
