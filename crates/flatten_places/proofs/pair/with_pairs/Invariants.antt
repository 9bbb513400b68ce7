use mathlib.Core.List.{List, ◌++◌}
use Prim.Native.Nat.{◌≤◌}
use lib.ListN.{length, drop}
use Rattle.lists.specs.Lists.{below}
use Rattle.flattening.specs.Flatten.{Pair}
use Rattle.flatten_places.specs.Filling.{PairedTo, pairs_of}
use Rattle.flatten_places.proofs.pair.with_pairs.Given as goal

abbrev pub invariant-loop-m : goal.invariant-loop-m
invariant-loop-m l = (whole rest : List Pair) → PairedTo whole (pairs_of l.s l.marks (below l.width) ++ rest) l.initial.next → length whole ≤ 64 → PairedTo whole (pairs_of l.s l.marks (drop l.m (below l.width)) ++ rest) l.next
