use mathlib.Core.Path.{refl, sym, ap, ◌∙◌}
use Rattle.lists.specs.Lists.{any}
use Rattle.lists.proofs.Lists.{any_next, any_stop}
use Rattle.lists.proofs.Below.{below_next, below_end}
use Rattle.network_records.specs.Network.{urgent_at}
use Rattle.network_moves.specs.Machine.{urgent}
use Rattle.network_moves.proofs.configuration.urgent.Goals as goal

pub loop-a-init : goal.loop-a-init
unfolding urgent
loop-a-init c = λ n L. refl

pub returns-then-is_urgent : goal.returns-then-is_urgent
returns-then-is_urgent c = λ n L. sym (c.loop-a.invariant n L ∙ any_stop _ (below_next L.automata _ c.loop-a-test.true) (ap (urgent_at n) (sym c.place-l.ensures) ∙ sym (c.is_urgent.ensures n L) ∙ c.if-is_urgent.true))

pub loop-a-preserved : goal.loop-a-preserved
loop-a-preserved c = λ n L. c.loop-a.invariant n L ∙ any_next _ (below_next L.automata _ c.loop-a-test.true) (ap (urgent_at n) (sym c.place-l.ensures) ∙ sym (c.is_urgent.ensures n L) ∙ c.if-is_urgent.false)

pub returns : goal.returns
unfolding any
returns c = λ n L. sym (c.loop-a.invariant n L ∙ ap (any _) (below_end L.automata _ c.loop-a-test.false))
