use native.Mathlib.Omega.{arith}
use Rattle.flattener.proofs.Writing.{copying_none, copying_more, copying_all, part_not}
use Rattle.flattener.proofs.write.copy.Goals as goal
use Rattle.flattener.proofs.write.copy.Goals.{then-out-size-via-then-out-size, then-out-size-via-else-out-size+then-out-size-2}

pub returns-then-out-size : goal.returns-then-out-size
returns-then-out-size c h =
    elim c.then-out-size.branch [
      | then-out-size-via-then-out-size w ↦ part_not _ _ _ _ _ _ _ (omega arith) h
      | then-out-size-via-else-out-size+then-out-size-2 w ↦ part_not _ _ _ _ _ _ _ (omega arith) h
    ]

pub loop-i-init : goal.loop-i-init
loop-i-init c = copying_none _ _ _ _ _ (omega arith) (omega arith)

pub loop-i-preserved : goal.loop-i-preserved
loop-i-preserved c = copying_more _ _ _ _ _ _ _ c.loop-i.invariant c.loop-i-test.true

pub returns : goal.returns
returns c h = copying_all _ _ _ _ _ _ _ c.loop-i.invariant c.loop-i-test.false
