use Rattle.flatten_edges.proofs.Departs.{lowest_none, lowest_more, lowest_all}
use native.Mathlib.Omega.{arith}
use Rattle.flatten_edges.proofs.source.next_departure.Goals as goal

pub loop-k-init : goal.loop-k-init
loop-k-init c = lowest_none _ _ _ (omega (arith, c.ranges.from))

pub loop-k-preserved : goal.loop-k-preserved
loop-k-preserved c = lowest_more _ _ _ _ _ c.loop-k.invariant c.byte_at-u.ensures c.byte_at-d.ensures c.lower-best.ensures

pub returns : goal.returns
returns c = lowest_all _ _ _ _ c.loop-k.invariant c.loop-k-test.false
