use mathlib.Core.Path.{◌≡◌}
use mathlib.Core.List.{List}
use Prim.Native.Nat.{◌+◌}
use lib.ListN.{drop}
use Rattle.lists.specs.Lists.{position}
use Rattle.flattening.specs.Flatten.{Pair, same_pair}
use Rattle.flatten_edges.specs.Hearing.{PairColumns}
use Rattle.flatten_edges.proofs.edge.pair_position.Given as goal

abbrev pub invariant-loop-k : goal.invariant-loop-k
invariant-loop-k l = (ps : List Pair) (p : Pair) → PairColumns ps l.states l.marks l.pairs → l.state ≡ p.state → l.mark ≡ p.mark → position (same_pair p) ps ≡ l.k + position (same_pair p) (drop l.k ps)
