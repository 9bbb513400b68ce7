use native.Mathlib.Omega.{arith}
use Rattle.flatten_alternatives.proofs.Keeping.{carried_first, carried_next, carried_last}
use Rattle.flatten_alternatives.proofs.ascending.put_in.Goals as goal

pub loop-i-init : goal.loop-i-init
loop-i-init c = carried_first _ _ _ _ (omega arith) (omega arith)

pub loop-i-preserved : goal.loop-i-preserved
loop-i-preserved c = carried_next _ _ _ _ (omega arith) (omega arith) _ _ _ c.loop-i.invariant (omega arith)

pub returns : goal.returns
returns c = carried_last _ _ _ _ (omega arith) (omega arith) _ _ _ c.loop-i.invariant (omega arith)
