use mathlib.Core.Path.{sym, ◌∙◌}
use Rattle.network_moves.proofs.Taken.{owner_kept}
use Rattle.network_moves.proofs.Choosing.{not_heard, not_active, receiver_active}
use Rattle.network_moves.proofs.choice.active_receiver.Goals as goal

pub returns-then-not-hears : goal.returns-then-not-hears
returns-then-not-hears c = λ n L h. sym (not_heard n _ _ _ (sym (c.hears.ensures _ n L h) ∙ c.if-not-hears.true))

pub returns-then-is_active : goal.returns-then-is_active
returns-then-is_active c = λ n L h. let K = c.edge_of-e.ensures _ n L h in
    let heard = sym (c.hears.ensures _ n L h) ∙ c.if-not-hears.false in
    owner_kept K n (c.automaton_of.ensures n L.located) ∙ sym (receiver_active n _ _ _ heard (sym (c.is_active.ensures n _ L.located K) ∙ c.if-is_active.true))

pub returns-else-is_active : goal.returns-else-is_active
returns-else-is_active c = λ n L h. let K = c.edge_of-e.ensures _ n L h in
    sym (not_active n _ _ _ (sym (c.is_active.ensures n _ L.located K) ∙ c.if-is_active.false))
