use mathlib.Core.Path.{refl}
use Rattle.lists.proofs.Loops.{filled_among_none, filled_among_more}
use native.Mathlib.Omega.{arith}
use Rattle.flatten_tables.proofs.number.departures.Goals as goal

pub loop-t-init : goal.loop-t-init
loop-t-init c = λ k h C N. filled_among_none _ _ _ _ refl

pub loop-t-preserved : goal.loop-t-preserved
loop-t-preserved c =
    λ k h C N. filled_among_more (c.loop-t.invariant k h C N) c.loop-t-test.true (λ j. c.departure_number.ensures k h N j (C.destination _ j) (C.exit _ j) (C.entry _ j))

pub returns : goal.returns
returns c = λ k h C N t j. (c.loop-t.invariant k h C N).filled t (omega (arith, j, C.few, c.loop-t-test.false)) j
