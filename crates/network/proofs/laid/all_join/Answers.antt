use mathlib.Core.Path.{refl, sym, ap, ◌∙◌}
use Rattle.lists.specs.Lists.{all}
use Rattle.lists.proofs.Lists.{all_next, all_stop}
use Rattle.network.proofs.Offsets.{edges_next, edges_end, edge_joins}
use Rattle.network.proofs.laid.all_join.Goals as goal

pub loop-i-init : goal.loop-i-init
loop-i-init c = λ n L. refl

pub returns-then-not-joins : goal.returns-then-not-joins
returns-then-not-joins c = λ n L. let joined = edge_joins L (c.edge_of-e.ensures _ n L c.loop-i-test.true) (c.joins.ensures n L.located) in
    sym (c.loop-i.invariant n L ∙ all_stop _ (edges_next L _ c.loop-i-test.true) (joined ∙ c.if-not-joins.true))

pub loop-i-preserved : goal.loop-i-preserved
loop-i-preserved c = λ n L. let joined = edge_joins L (c.edge_of-e.ensures _ n L c.loop-i-test.true) (c.joins.ensures n L.located) in
    c.loop-i.invariant n L ∙ all_next _ (edges_next L _ c.loop-i-test.true) (joined ∙ c.if-not-joins.false)

pub returns : goal.returns
unfolding all
returns c = λ n L. sym (c.loop-i.invariant n L ∙ ap (all _) (edges_end L _ c.loop-i-test.false))
