use native.Mathlib.Omega.{arith}
use Rattle.breaks.specs.Passes.{block_climbs}
use Rattle.breaks.proofs.Blocks.{tested_none, tested_more, tested_all}
use Rattle.breaks.proofs.block.block_climbs.Goals as goal

pub loop-k-init : goal.loop-k-init
loop-k-init c = (omega arith, tested_none _)

pub climbs_at-climbs-requires : goal.climbs_at-climbs-requires
climbs_at-climbs-requires c = (omega arith, omega arith)

pub loop-k-preserved : goal.loop-k-preserved
loop-k-preserved c = (omega arith, tested_more _ _ c.loop-k.invariant.1 c.climbs_at-climbs.ensures)

pub returns : goal.returns
unfolding block_climbs
returns c = tested_all _ 32 c.loop-k.invariant.1 (omega arith) (omega arith)
