use mathlib.Core.Path.{refl, sym, ◌∙◌}
use Rattle.lists.proofs.Loops.{filled_none, filled_more, filled_all}
use Rattle.network.proofs.Borne.{transitions_length, transitions_at}
use Rattle.network.proofs.bearing.transitions_at.Goals as goal

pub loop-i-init : goal.loop-i-init
loop-i-init c = λ n L. filled_none 16 _ _ (transitions_length n _) refl

pub loop-i-preserved : goal.loop-i-preserved
loop-i-preserved c = λ n L. filled_more 16 _ _ _ (c.loop-i.invariant n L) 255 _ c.loop-i-test.true (c.transition_at.ensures n L ∙ sym (transitions_at n _ _ c.loop-i-test.true))

pub returns : goal.returns
returns c = λ n L. filled_all 16 _ _ _ (c.loop-i.invariant n L) c.loop-i-test.false
