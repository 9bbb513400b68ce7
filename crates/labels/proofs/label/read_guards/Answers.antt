use mathlib.Core.Path.{sym}
use mathlib.Core.List.{[]}
use Rattle.reading.specs.Reading.{skipped}
use Rattle.reading.proofs.Places.{reached_err}
use Rattle.reading.proofs.Reading.{mapped_got, mapped_fault, mapped_at, fault_at}
use Rattle.reading.proofs.Many.{going_none, going_more, going_stop, going_all}
use Rattle.labels.proofs.label.read_guards.Goals as goal

pub loop-init : goal.loop-init
loop-init c = ([], going_none _ _ _)

pub returns-in_err-place : goal.returns-in_err-place
unfolding skipped
returns-in_err-place c =
    reached_err _ _ _ _ c.from_residual.ensures.1
    (mapped_fault _ (going_stop _ _ _ c.loop.invariant.1 c.loop-test.true (fault_at _ _ (sym c.in_err-place.ensures))))

pub loop-preserved : goal.loop-preserved
unfolding skipped
loop-preserved c = (_, going_more _ _ _ c.loop.invariant.1 c.loop-test.true (mapped_at _ _ (sym c.in_ok-place.ensures)).1)

pub returns : goal.returns
unfolding skipped
returns c = sym (mapped_got _ (going_all _ _ _ c.loop.invariant.1 c.loop-test.false).0)
