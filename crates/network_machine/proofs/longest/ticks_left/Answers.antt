use mathlib.Core.Path.{sym, ap, ◌∙◌}
use mathlib.Core.Bool.{Bool}
use Rattle.lists.specs.Lists.{below}
use Rattle.clocks.specs.Clocks.{left_where, limit_left}
use Rattle.clocks.proofs.Ticks.{where_broken}
use Rattle.network_moves.specs.Machine.{ticks_under}
use Rattle.network_moves.proofs.Stands.{stands_not, stands_bounds}
use Rattle.network_machine.proofs.longest.ticks_left.Goals as goal

pub returns-then-not-stands : goal.returns-then-not-stands
returns-then-not-stands c = λ n L. sym (where_broken _ (stands_not n _ (sym (c.stands.ensures n L) ∙ c.if-not-stands.true)))

pub returns : goal.returns
returns c = λ n L. let h = sym (c.stands.ensures n L) ∙ c.if-not-stands.false in
    c.bounds_left.ensures n L
    ∙ ap (λ (b : Bool). left_where b (ticks_under n c.args.c (below n.automata) (limit_left n.clocks c.args.c.clocks))) (stands_bounds n c.args.c h)
