use mathlib.Core.Path.{refl}
use Rattle.flatten_places.proofs.Fixing.{barred_none, barred_more}
use native.Mathlib.Omega.{arith}
use Rattle.flatten_places.proofs.fixed.bars_of.Goals as goal

pub loop-s-init : goal.loop-s-init
loop-s-init c = barred_none _ _ _ refl

pub loop-s-preserved : goal.loop-s-preserved
loop-s-preserved c = barred_more _ _ _ _ _ c.loop-s.invariant c.loop-s-test.true c.barred_by.ensures

pub returns : goal.returns
returns c = λ s e h l. c.loop-s.invariant.done s e (omega (arith, c.loop-s-test.false)) l
