use native.Mathlib.Omega.{arith}
use Rattle.request_parts.proofs.Fronts.{writing_none, writing_more, writing_all, ticks_room, tick_read}
use Rattle.request_parts.proofs.ticks.fill_ticks.Goals as goal

pub loop-i-init : goal.loop-i-init
loop-i-init c = writing_none _ _

pub bounds-ticks-i : goal.bounds-ticks-i
bounds-ticks-i c = omega (arith, c.loop-i.invariant.long)

pub loop-i-preserved : goal.loop-i-preserved
loop-i-preserved c = writing_more _ _ _ _ c.loop-i.invariant (ticks_room _ _ c.min-count.ensures) c.loop-i-test.true
    (tick_read _ _ (omega (arith, c.min-count.ensures)) c.word_at.ensures)

pub shape_of-ticks : goal.shape_of-ticks
shape_of-ticks c = c.loop-i.invariant.long

pub returns : goal.returns
returns c = let q = ticks_room _ _ c.min-count.ensures in
    record { count = q; filled = writing_all _ _ _ _ c.loop-i.invariant q c.loop-i-test.false }
