use native.Mathlib.Omega.{arith}
use Rattle.breaks.specs.Passes.{block_quiet}
use Rattle.breaks.proofs.Blocks.{tested_none, tested_more, tested_all}
use Rattle.breaks.proofs.block.block_quiet.Goals as goal

pub loop-k-init : goal.loop-k-init
loop-k-init c = (omega arith, tested_none _)

pub quiet_at-quiet-requires : goal.quiet_at-quiet-requires
quiet_at-quiet-requires c = (omega arith, omega arith, omega arith)

pub loop-k-preserved : goal.loop-k-preserved
loop-k-preserved c = (omega arith, tested_more _ _ c.loop-k.invariant.1 c.quiet_at-quiet.ensures)

pub returns : goal.returns
unfolding block_quiet
returns c = tested_all _ 32 c.loop-k.invariant.1 (omega arith) (omega arith)
