use mathlib.Core.Path.{sym, ◌∙◌}
use Rattle.chart_machine.proofs.Refusals.{wait_elsewhere, wait_none, wait_late, wait_moved}
use Rattle.chart_machine.proofs.operation.wait_checked.Goals as goal

pub returns-then-not-is_configuration : goal.returns-then-not-is_configuration
returns-then-not-is_configuration c = λ k G. sym (wait_elsewhere k _ _ (sym (c.is_configuration.ensures k G) ∙ c.if-not-is_configuration.true))

pub returns-then-ticks-eq0 : goal.returns-then-ticks-eq0
returns-then-ticks-eq0 c = λ k G. sym (wait_none k _ _ (sym (c.is_configuration.ensures k G) ∙ c.if-not-is_configuration.false) c.if-ticks-eq0.true)

pub returns-in_default : goal.returns-in_default
returns-in_default c =
    λ k G. sym (wait_late k _ _ (sym (c.is_configuration.ensures k G) ∙ c.if-not-is_configuration.false) c.if-ticks-eq0.false G.stated.clocks (sym c.in_default.is ∙ c.later.ensures))

pub returns : goal.returns
returns c =
    λ k G. c.tested.ensures k G.stated
    ∙ sym (wait_moved k _ _ (sym (c.is_configuration.ensures k G) ∙ c.if-not-is_configuration.false) c.if-ticks-eq0.false G.stated.clocks c.in-Some.ensures)
