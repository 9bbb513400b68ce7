use mathlib.Core.Path.{refl, sym, ◌∙◌}
use Rattle.lists.specs.Lists.{range, below}
use Rattle.lists.proofs.Below.{get_d_mapped}
use Rattle.lists.proofs.Loops.{filled_none, filled_more, filled_all}
use Rattle.network.proofs.initial.initial_locations.Goals as goal

pub loop-a-init : goal.loop-a-init
unfolding below range
loop-a-init c = λ n L. filled_none 16 _ _ refl refl

pub loop-a-preserved : goal.loop-a-preserved
loop-a-preserved c = λ n L. filled_more 16 _ _ _ (c.loop-a.invariant n L) 0 _ c.loop-a-test.true (c.start_of.ensures n L ∙ sym (get_d_mapped _ 16 _ 0 c.loop-a-test.true))

pub returns : goal.returns
returns c = λ n L. filled_all 16 _ _ _ (c.loop-a.invariant n L) c.loop-a-test.false
