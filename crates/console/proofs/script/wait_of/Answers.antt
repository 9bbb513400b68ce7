use mathlib.Core.Path.{sym, ap, ◌∙◌}
use Rattle.console.specs.Script.{wait_line}
use Rattle.console.proofs.Decimals.{number_value, number_bad}
use Rattle.console.proofs.Steps.{wait_bad, wait_more, wait_one}
use Rattle.console.proofs.script.wait_of.Goals as goal

pub returns-in_default : goal.returns-in_default
unfolding wait_line
returns-in_default c = c.plain.ensures ∙ ap wait_line c.in_default.ensures.means

pub returns-in_default-number : goal.returns-in_default-number
returns-in_default-number c = c.plain-in_default-number.ensures ∙ sym (wait_bad _ _ (sym c.in-Some.ensures.means) (number_bad _ (sym c.in_default-number.ensures)))

pub returns-in-None : goal.returns-in-None
returns-in-None c = c.plain-in-None.ensures ∙ sym (wait_one _ _ (sym c.in-Some.ensures.means) (sym c.in-None.ensures.means) (number_value _ (sym c.in-Some-number.ensures)))

pub returns-in-Some-next_word : goal.returns-in-Some-next_word
returns-in-Some-next_word c = c.plain-in-Some-next_word.ensures ∙ sym (wait_more _ _ (sym c.in-Some.ensures.means) (sym c.in-Some-next_word.ensures.means))
