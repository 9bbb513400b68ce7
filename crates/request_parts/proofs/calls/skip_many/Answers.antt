use mathlib.Core.Path.{sym, ap, ◌∙◌}
use Rattle.reading.specs.Reading.{skipped}
use Rattle.reading.specs.Places.{reached}
use Rattle.reading.proofs.Places.{handed_on}
use Rattle.reading.proofs.Reading.{mapped_got, mapped_fault}
use Rattle.reading.proofs.Skips.{skipping_none, skipping_more, skipping_stop, skipping_all}
use Rattle.request_parts.proofs.calls.skip_many.Goals as goal

pub loop-init : goal.loop-init
loop-init c = (skipping_none _ _ _, λ h. h)

pub returns-in_err-next-clause-means : goal.returns-in_err-next-clause-means
unfolding skipped
returns-in_err-next-clause-means c =
    ap (reached _ tt) (handed_on _ c.from_residual.ensures.1)
    ∙ sym (skipping_stop _ _ _ c.loop.invariant.0 c.loop-test.true (mapped_fault _ (sym c.in_err-next.ensures.means)))

pub loop-preserved : goal.loop-preserved
unfolding skipped
loop-preserved c =
    (skipping_more _ _ _ c.loop.invariant.0 c.loop-test.true (mapped_got _ (sym c.in_ok-next.ensures.means)), λ h. c.in_ok-next.ensures.within)

pub returns : goal.returns
returns c = record { means = sym (skipping_all _ _ _ c.loop.invariant.0 c.loop-test.false); within = c.loop.invariant.1 }
