use mathlib.Core.Path.{refl, sym, ap, ◌∙◌}
use lib.ListN.{drop_of_length-le}
use Rattle.lists.specs.Lists.{any}
use Rattle.lists.proofs.Lists.{any_next, any_stop, each_below}
use Rattle.lists.proofs.Parts.{drop_next}
use Rattle.network_records.specs.Network.{urgent_at}
use Rattle.network_moves.proofs.active.any_urgent.Goals as goal

pub loop-m-init : goal.loop-m-init
loop-m-init c = λ n L h. refl

pub returns-then-is_urgent : goal.returns-then-is_urgent
returns-then-is_urgent c = λ n L h. sym (c.loop-m.invariant n L h ∙ any_stop _ (drop_next _ _ 0 c.loop-m-test.true) (ap (urgent_at n) (sym (c.edge_of-e.ensures _ n L (each_below _ _ h c.loop-m-test.true)).source) ∙ sym (c.is_urgent.ensures n L.located) ∙ c.if-is_urgent.true))

pub loop-m-preserved : goal.loop-m-preserved
loop-m-preserved c = λ n L h. c.loop-m.invariant n L h ∙ any_next _ (drop_next _ _ 0 c.loop-m-test.true) (ap (urgent_at n) (sym (c.edge_of-e.ensures _ n L (each_below _ _ h c.loop-m-test.true)).source) ∙ sym (c.is_urgent.ensures n L.located) ∙ c.if-is_urgent.false)

pub returns : goal.returns
unfolding any
returns c = λ n L h. sym (c.loop-m.invariant n L h ∙ ap (any _) (drop_of_length-le _ c.loop-m-test.false))
