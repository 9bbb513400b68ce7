use mathlib.Core.Path.{◌≡◌}
use mathlib.Core.List.{List, Memᴰ as Mem}
use Prim.Native.Nat.{ℕ, ◌+◌}
use lib.Bits.{bit_or}
use Rattle.flatten_alternatives.specs.Choosing.{Kept}
use Rattle.flatten_alternatives.proofs.Keeping.{joined_to}
use Rattle.flatten_alternatives.proofs.alternative.with_each.Given as goal

abbrev pub invariant-loop-x : goal.invariant-loop-x
invariant-loop-x l = (xs ys : List ℕ) (k : Kept l.from l.size xs) → Kept l.initial.to l.count ys → ((x : ℕ) → Mem x xs → bit_or x l.set ≡ x + l.set) → Kept l.to l.total (joined_to l.from l.size l.set xs ys k l.x-index)
