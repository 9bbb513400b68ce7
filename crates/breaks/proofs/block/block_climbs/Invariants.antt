use mathlib.Core.Path.{◌≡◌}
use Prim.Native.Nat.{◌+◌, ◌≤◌}
use Rattle.lists.specs.Lists.{all, below}
use Rattle.breaks.specs.Passes.{climbs_at}
use Rattle.breaks.proofs.block.block_climbs.Given as goal

abbrev pub invariant-loop-k : goal.invariant-loop-k
invariant-loop-k l = (l.k ≤ 32) × (l.climbs ≡ all (λ j. climbs_at l.ticks (l.from + j)) (below l.k))
