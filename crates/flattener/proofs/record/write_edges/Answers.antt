use lib.ListN.{get_or}
use Rattle.flattener.proofs.Records.{listing_none, listing_more, listing_all, no_edge, writable_lt, writable_le, writable_head, writable_body}
use Rattle.flattener.proofs.record.write_edges.Goals as goal

pub loop-i-init : goal.loop-i-init
loop-i-init c = λ d es W. listing_none _ _ _ _

pub loop-i-preserved : goal.loop-i-preserved
loop-i-preserved c = λ d es W.
    listing_more _ _ _ _ no_edge (c.loop-i.invariant d es W) (writable_lt W _ c.loop-i-test.true)
    (c.write_edge-place.ensures d W.counts (get_or es c.loop-i.i no_edge) W.laid (writable_head W _ c.loop-i-test.true) (writable_body W _ c.loop-i-test.true))

pub returns : goal.returns
returns c d es W = listing_all _ _ _ _ (c.loop-i.invariant d es W) (writable_le W _ c.loop-i-test.false)
