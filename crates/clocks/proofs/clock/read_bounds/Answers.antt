use mathlib.Core.Path.{sym, ap, ◌∙◌}
use Rattle.reading.specs.Reading.{skipped}
use Rattle.reading.specs.Places.{reached}
use Rattle.reading.proofs.Places.{handed_on}
use Rattle.reading.proofs.Reading.{mapped_got, mapped_fault}
use Rattle.reading.proofs.Skips.{skipping_none, skipping_more, skipping_stop, skipping_all}
use Rattle.clocks.proofs.Rows.{skipped_row}
use Rattle.clocks.proofs.clock.read_bounds.Goals as goal

pub loop-init : goal.loop-init
loop-init c = skipping_none _ _ _

pub returns-in_err-next : goal.returns-in_err-next
unfolding skipped
returns-in_err-next c =
    ap (reached _ tt) (handed_on _ c.from_residual.ensures.1)
    ∙ sym (skipped_row _ _ ∙ skipping_stop _ _ _ c.loop.invariant c.loop-test.true (mapped_fault _ (sym c.in_err-next.ensures)))

pub loop-preserved : goal.loop-preserved
unfolding skipped
loop-preserved c = skipping_more _ _ _ c.loop.invariant c.loop-test.true (mapped_got _ (sym c.in_ok-next.ensures))

pub returns : goal.returns
returns c = sym (skipped_row _ _ ∙ skipping_all _ _ _ c.loop.invariant c.loop-test.false)
