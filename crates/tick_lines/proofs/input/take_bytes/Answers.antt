use mathlib.Core.Path.{refl}
use mathlib.Core.List.{List}
use Prim.Native.Nat.{ℕ, ◌+◌}
use borrow.Author.Rules.{rules}
use lib.ListN.{take}
use Rattle.std.specs.Prelude.{Ok, Err}
use Rattle.reading.proofs.Places.{handed_on}
use Rattle.tick_lines.specs.Rings.{Holds}
use Rattle.tick_lines.specs.Inputs.{said, bytes_said, GoesOn}
use Rattle.tick_lines.proofs.Inputs.{on_holds, read_next, taken_all_lem}
use Rattle.tick_lines.proofs.input.take_bytes.Goals as goal

pub loop-b-init : goal.loop-b-init
unfolding bytes_said
loop-b-init c = (c.requires.0, refl, c.requires.1, λ ts H. (H, refl))

pub take_byte-requires : goal.take_byte-requires
take_byte-requires c = (c.loop-b.invariant.0, c.loop-b.invariant.2)

pub returns-in_err-now : goal.returns-in_err-now
returns-in_err-now c = λ ts H.
    rw (handed_on _ c.from_residual.ensures.1)
    (c.loop-b.b-index + 1, read_next c.args.window c.loop-b.ring c.take_byte.new.ring (said ts c.args.state.line) c.loop-b.now c.args.bytes.now c.loop-b.b-index (Err c.in_err-now.field-0.0) c.loop-b-test.true (c.loop-b.invariant.3 ts H) c.in_err-now.ensures)

pub loop-b-preserved : goal.loop-b-preserved
loop-b-preserved c =
    let next : (ts : List ℕ) → Holds c.args.window c.args.ring.now c.args.state.recent ts →
    GoesOn c.args.window c.take_byte.new.ring (bytes_said (said ts c.args.state.line) (take (c.loop-b.b-index + 1) c.args.bytes.now)) c.in_ok-now.now =
    λ ts H. read_next c.args.window c.loop-b.ring c.take_byte.new.ring (said ts c.args.state.line) c.loop-b.now c.args.bytes.now c.loop-b.b-index (Ok c.in_ok-now.now) c.loop-b-test.true (c.loop-b.invariant.3 ts H) c.in_ok-now.ensures
    in
    let said_then = bytes_said (said c.requires.1.0 c.args.state.line) (take (c.loop-b.b-index + 1) c.args.bytes.now) in
    let holds = on_holds c.args.window c.take_byte.new.ring said_then c.in_ok-now.now (next c.requires.1.0 c.requires.1.1) in
    (c.loop-b.invariant.0, search rules, holds, next)

pub returns : goal.returns
returns c = λ ts H. taken_all_lem _ _ _ _ _ _ c.loop-b-test.false (c.loop-b.invariant.3 ts H)
