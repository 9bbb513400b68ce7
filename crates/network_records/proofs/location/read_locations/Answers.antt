use mathlib.Core.Path.{sym}
use Rattle.reading.proofs.Places.{reached_err}
use Rattle.reading.proofs.Skips.{skipping_none, skipping_more, skipping_stop, skipping_all}
use Rattle.network_records.proofs.location.read_locations.Goals as goal

pub loop-init : goal.loop-init
loop-init c = skipping_none _ _ _

pub returns-in_err-place : goal.returns-in_err-place
returns-in_err-place c = reached_err _ _ _ _ c.from_residual.ensures.1 (skipping_stop _ _ _ c.loop.invariant c.loop-test.true (sym c.in_err-place.ensures))

pub loop-preserved : goal.loop-preserved
loop-preserved c = skipping_more _ _ _ c.loop.invariant c.loop-test.true (sym c.in_ok-place.ensures)

pub returns : goal.returns
returns c = sym (skipping_all _ _ _ c.loop.invariant c.loop-test.false)
