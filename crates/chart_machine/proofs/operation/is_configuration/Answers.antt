use mathlib.Core.Path.{sym, ◌∙◌}
use Rattle.chart_machine.proofs.Refusals.{stands_not, stands_bounds}
use Rattle.chart_machine.proofs.operation.is_configuration.Goals as goal

pub returns-else-stands : goal.returns-else-stands
returns-else-stands c = λ k G. c.if-stands.false ∙ sym (stands_not k _ (sym (c.stands.ensures _ k G) ∙ c.if-stands.false))

pub returns-then-stands : goal.returns-then-stands
returns-then-stands c = λ k G. c.bounds_kept.ensures k G.stated ∙ stands_bounds k c.args.given (sym (c.stands.ensures _ k G) ∙ c.if-stands.true)
