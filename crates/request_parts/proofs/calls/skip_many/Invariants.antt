use Prim.Native.Nat.{◌≤◌}
use lib.ListN.{length}
use Rattle.reading.specs.Places.{onward}
use Rattle.reading.proofs.Skips.{Skipping}
use Rattle.request_parts.specs.Calls.{call}
use Rattle.request_parts.proofs.calls.skip_many.Given as goal

abbrev pub invariant-loop : goal.invariant-loop
invariant-loop l = Skipping call l.count (onward l.s l.at) (onward l.s l.place) l.counter × (l.at ≤ length l.s → l.place ≤ length l.s)
