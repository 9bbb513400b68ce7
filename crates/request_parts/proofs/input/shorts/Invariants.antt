use Prim.Native.Nat.{◌*◌}
use Rattle.request_parts.specs.Parts.{short_at}
use Rattle.request_parts.proofs.Fills.{Begun}
use Rattle.request_parts.proofs.input.shorts.Given as goal

abbrev pub invariant-loop-i : goal.invariant-loop-i
invariant-loop-i l = Begun 65536 l.count (λ k. short_at l.s (2 * k)) l.t l.i
