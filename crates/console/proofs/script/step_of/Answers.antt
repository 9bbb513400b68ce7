use mathlib.Core.Path.{sym, ◌∙◌}
use Rattle.console.proofs.Decimals.{number_value, number_bad}
use Rattle.console.proofs.Steps.{step_none, step_more, step_bad, step_end}
use Rattle.console.proofs.script.step_of.Goals as goal

pub loop-from-init : goal.loop-from-init
loop-from-init c = step_none _ c.plain-line.ensures

pub returns : goal.returns
returns c = step_end _ c.loop-from.invariant (sym c.in_default.ensures.means)

pub returns-in_default-number : goal.returns-in_default-number
returns-in_default-number c = c.plain.ensures ∙ step_bad _ _ _ c.loop-from.invariant (sym c.in-Some.ensures.means) (number_bad _ (sym c.in_default-number.ensures))

pub loop-from-preserved : goal.loop-from-preserved
loop-from-preserved c = step_more _ _ _ c.loop-from.invariant (sym c.in-Some.ensures.means) (number_value _ (sym c.in-Some-number.ensures)) c.with_number-line.ensures
