use Rattle.std.proofs.Common.{true, arith}
use Rattle.paired_run.proofs.Owing.{named_next, named_end}
use Rattle.steps.proofs.Moves.{known_each}
use Rattle.paired_run.proofs.owe.named_in.Goals as goal

pub loop-t-init : goal.loop-t-init
loop-t-init c = (omega arith, λ d k L h. omega arith)

pub overflow_add-sum : goal.overflow_add-sum
overflow_add-sum c = omega (arith, c.named_by-sum.ensures.few, c.loop-t.invariant.0, c.loop-t-test.true)

pub loop-t-preserved : goal.loop-t-preserved
loop-t-preserved c = (
  omega (arith, c.named_by-sum.ensures.few),
  λ d k L h. omega (arith, c.loop-t.invariant.1 d k L h, named_next d c.args.list.now c.loop-t.t-index c.loop-t-test.true, c.named_by-sum.ensures.means d k L (known_each k.transitions c.args.list.now h c.loop-t.t-index c.loop-t-test.true)),
)

pub returns : goal.returns
returns c = λ d k L h. omega (arith, c.loop-t.invariant.1 d k L h, named_end d c.args.list.now c.loop-t.t-index c.loop-t-test.false)
