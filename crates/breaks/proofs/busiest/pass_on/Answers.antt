use native.Mathlib.Omega.{arith}
use Rattle.break_windows.proofs.Passing.{sought_is}
use Rattle.breaks.proofs.busiest.pass_on.Goals as goal

pub loop-k-init : goal.loop-k-init
loop-k-init c = ((c.requires.1.0, sought_is c.requires.1.1 (omega arith)), λ k S. sought_is S (omega arith))

pub pass_block-requires : goal.pass_block-requires
pass_block-requires c = (omega arith, c.loop-k.invariant.0)

pub returns-in_err-best : goal.returns-in_err-best
returns-in_err-best c = λ k S. rw c.from_residual.ensures (c.in_err-best.ensures k (c.loop-k.invariant.1 k S))

pub loop-k-preserved : goal.loop-k-preserved
loop-k-preserved c =
    let I = c.loop-k.invariant in
    ((I.0.0, sought_is (c.in_ok-best.ensures I.0.0 I.0.1) (omega arith)), λ k S. sought_is (c.in_ok-best.ensures k (I.1 k S)) (omega arith))

pub pass-requires : goal.pass-requires
pass-requires c = (omega arith, omega arith, (c.loop-k.invariant.0.0, sought_is c.loop-k.invariant.0.1 (omega arith)))

pub returns : goal.returns
returns c = λ k S. c.pass.ensures k (sought_is (c.loop-k.invariant.1 k S) (omega arith))
