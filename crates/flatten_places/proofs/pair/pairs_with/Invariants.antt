use Prim.Native.Nat.{◌≤◌}
use lib.ListN.{length}
use Rattle.flatten_places.specs.Filling.{PairedTo}
use Rattle.flatten_places.proofs.Naming.{pairs_from}
use Rattle.flatten_places.proofs.pair.pairs_with.Given as goal

abbrev pub invariant-loop-s : goal.invariant-loop-s
invariant-loop-s l = length (pairs_from l.named l.width l.states 0) ≤ 64 → PairedTo (pairs_from l.named l.width l.states 0) (pairs_from l.named l.width l.states l.s) l.next
