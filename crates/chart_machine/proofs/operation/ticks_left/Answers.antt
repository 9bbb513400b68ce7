use mathlib.Core.Path.{sym, ap, ◌∙◌}
use mathlib.Core.Bool.{Bool}
use Rattle.clocks.specs.Clocks.{left_where, limit_left}
use Rattle.clocks.proofs.Ticks.{where_broken}
use Rattle.chart_records.specs.Chart.{states}
use Rattle.chart_moves.specs.Machine.{ticks_under}
use Rattle.chart_machine.proofs.Refusals.{stands_not, stands_bounds}
use Rattle.chart_machine.proofs.operation.ticks_left.Goals as goal

pub returns-then-not-stands : goal.returns-then-not-stands
returns-then-not-stands c = λ k G. sym (where_broken _ (stands_not k _ (sym (c.stands.ensures _ k G) ∙ c.if-not-stands.true)))

pub returns : goal.returns
returns c = λ k G.
    let h = sym (c.stands.ensures _ k G) ∙ c.if-not-stands.false in
    c.bounds_left.ensures k G.stated
    ∙ ap (λ (b : Bool). left_where b (ticks_under k c.args.given (states k) (limit_left k.clocks c.args.given.clocks))) (stands_bounds k c.args.given h)
