use mathlib.Core.Path.{refl, ◌∙◌}
use Rattle.lists.proofs.Loops.{filled_among_none, filled_among_more}
use Rattle.flatten_places.proofs.Placing.{state_column}
use Rattle.flatten_tables.proofs.Slots.{found_idle}
use native.Mathlib.Omega.{arith}
use Rattle.flatten_tables.proofs.number.firsts.Goals as goal

pub loop-a-init : goal.loop-a-init
loop-a-init c = λ k A N. filled_among_none _ _ _ _ refl

pub loop-a-preserved : goal.loop-a-preserved
loop-a-preserved c =
    λ k A N. filled_among_more (c.loop-a.invariant k A N) c.loop-a-test.true (λ j. c.number_at.ensures ∙ found_idle k _ N _ _ j (state_column A _ j))

pub returns : goal.returns
returns c = λ k A N a j. (c.loop-a.invariant k A N).filled a (omega (arith, j, A.few, c.loop-a-test.false)) j
