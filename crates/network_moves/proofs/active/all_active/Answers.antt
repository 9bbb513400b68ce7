use mathlib.Core.Path.{refl, sym, ap, ◌∙◌}
use lib.ListN.{drop_of_length-le}
use Rattle.lists.specs.Lists.{all}
use Rattle.lists.proofs.Lists.{all_next, all_stop, each_below}
use Rattle.lists.proofs.Parts.{drop_next}
use Rattle.network_moves.proofs.active.all_active.Goals as goal

pub loop-m-init : goal.loop-m-init
loop-m-init c = λ n L h. refl

pub returns-then-not-is_active : goal.returns-then-not-is_active
returns-then-not-is_active c = λ n L h. sym (c.loop-m.invariant n L h ∙ all_stop _ (drop_next _ _ 0 c.loop-m-test.true) (sym (c.is_active.ensures n _ L.located (c.edge_of-e.ensures _ n L (each_below _ _ h c.loop-m-test.true))) ∙ c.if-not-is_active.true))

pub loop-m-preserved : goal.loop-m-preserved
loop-m-preserved c = λ n L h. c.loop-m.invariant n L h ∙ all_next _ (drop_next _ _ 0 c.loop-m-test.true) (sym (c.is_active.ensures n _ L.located (c.edge_of-e.ensures _ n L (each_below _ _ h c.loop-m-test.true))) ∙ c.if-not-is_active.false)

pub returns : goal.returns
unfolding all
returns c = λ n L h. sym (c.loop-m.invariant n L h ∙ ap (all _) (drop_of_length-le _ c.loop-m-test.false))
