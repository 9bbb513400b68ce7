use mathlib.Core.Path.{◌≡◌}
use Prim.Native.Nat.{◌≤◌}
use lib.ListN.{length}
use Rattle.flatten_places.specs.Filling.{Named}
use Rattle.flatten_places.proofs.pair.marks_named.Given as goal

abbrev pub invariant-loop-t : goal.invariant-loop-t
invariant-loop-t l = (l.t ≤ l.count) × (length l.named ≡ 48) × Named l.states l.marks l.t l.named
