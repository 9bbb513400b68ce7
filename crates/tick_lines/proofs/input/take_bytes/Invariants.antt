use mathlib.Core.Path.{◌≡◌}
use mathlib.Core.List.{List}
use Prim.Native.Nat.{ℕ, ◌≤◌}
use lib.ListN.{length, take}
use Rattle.tick_lines.specs.Rings.{Holds}
use Rattle.tick_lines.specs.Inputs.{said, bytes_said, GoesOn}
use Rattle.tick_lines.proofs.input.take_bytes.Given as goal

abbrev pub invariant-loop-b : goal.invariant-loop-b
invariant-loop-b l = (1 ≤ l.window)
    × (length l.ring ≡ length l.initial.ring)
    × ((ts : List ℕ) × Holds l.window l.ring l.now.recent ts)
    × ((ts : List ℕ) → Holds l.window l.initial.ring l.initial.now.recent ts → GoesOn l.window l.ring (bytes_said (said ts l.initial.now.line) (take l.b-index l.bytes)) l.now)
