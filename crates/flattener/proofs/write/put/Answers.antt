use native.Mathlib.Omega.{arith}
use Rattle.flattener.proofs.Writing.{wrote_not, wrote_one}
use Rattle.flattener.proofs.write.put.Goals as goal

pub returns-then-at-out : goal.returns-then-at-out
returns-then-at-out c = wrote_not _ _ _ _ _ (omega arith)

pub returns : goal.returns
returns c = wrote_one _ _ _ c.if-at-out.false
