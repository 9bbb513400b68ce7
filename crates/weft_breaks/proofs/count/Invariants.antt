use Rattle.std.proofs.Common.{length, ◌≡◌, List, ℕ}
use Rattle.tick_lines.specs.Rings.{Holds}
use Rattle.weft_breaks.proofs.count.Given as goal

abbrev pub invariant-loop : goal.invariant-loop
invariant-loop g l = record {
  ring_kept : length l.ring ≡ length l.fn.ring;
  bytes_kept : length l.bytes ≡ length l.fn.bytes;
  held : (ts : List ℕ) × Holds l.window l.ring l.state.recent ts;
}
