use native.Mathlib.Omega.{arith}
use Rattle.flattener.proofs.Records.{listing_none, listing_more, listing_all}
use Rattle.flattener.proofs.location.write_bounds.Goals as goal

pub returns-then-clocks-gt8 : goal.returns-then-clocks-gt8
returns-then-clocks-gt8 c h = absurd (omega arith)

pub loop-bound-init : goal.loop-bound-init
loop-bound-init c = listing_none _ _ _ _

pub loop-bound-preserved : goal.loop-bound-preserved
loop-bound-preserved c = listing_more _ _ _ _ 0 c.loop-bound.invariant c.loop-bound-test.true c.put_word-place.ensures

pub returns : goal.returns
returns c h = listing_all _ _ _ _ c.loop-bound.invariant c.loop-bound-test.false
