use mathlib.Core.Path.{refl}
use Rattle.lists.proofs.Loops.{filled_among_none, filled_among_more}
use native.Mathlib.Omega.{arith}
use Rattle.flatten_tables.proofs.number.arrivals.Goals as goal

pub loop-i-init : goal.loop-i-init
loop-i-init c = λ k h C N. filled_among_none _ _ _ _ refl

pub loop-i-preserved : goal.loop-i-preserved
loop-i-preserved c =
    λ k h C N. filled_among_more (c.loop-i.invariant k h C N) c.loop-i-test.true (λ j. c.arrival_number.ensures k _ h N j (C.destination _ j) (C.entry _ j))

pub returns : goal.returns
returns c = λ k h C N t j. (c.loop-i.invariant k h C N).filled t (omega (arith, j, C.few, c.loop-i-test.false)) j
