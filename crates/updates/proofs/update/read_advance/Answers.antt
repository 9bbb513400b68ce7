use mathlib.Core.Path.{sym, ◌∙◌}
use Rattle.reading.specs.Reading.{yield}
use Rattle.reading.proofs.Places.{bind_got, bind_fault, read_err}
use Rattle.updates.specs.Update.{advanced}
use Rattle.updates.proofs.update.read_advance.Goals as goal

pub returns-in_err-steps : goal.returns-in_err-steps
unfolding advanced
returns-in_err-steps c = read_err _ _ _ c.from_residual.ensures.1 (bind_fault _ _ _ (sym c.in_err-steps.ensures.means))

pub returns-in_err-remainder : goal.returns-in_err-remainder
unfolding advanced
returns-in_err-remainder c =
    read_err _ _ _ c.from_residual-in_err-remainder.ensures.1
    (bind_got _ _ _ (sym c.in_ok-steps.ensures.means) ∙ bind_fault _ _ _ (sym c.in_err-remainder.ensures.means))

pub returns-in_err-numerator : goal.returns-in_err-numerator
unfolding advanced
returns-in_err-numerator c =
    read_err _ _ _ c.from_residual-in_err-numerator.ensures.1
    (bind_got _ _ _ (sym c.in_ok-steps.ensures.means)
    ∙ bind_got _ _ _ (sym c.in_ok-remainder.ensures.means)
    ∙ bind_fault _ _ _ (sym c.in_err-numerator.ensures.means))

pub returns-in_err-denominator : goal.returns-in_err-denominator
unfolding advanced
returns-in_err-denominator c =
    read_err _ _ _ c.from_residual-in_err-denominator.ensures.1
    (bind_got _ _ _ (sym c.in_ok-steps.ensures.means)
    ∙ bind_got _ _ _ (sym c.in_ok-remainder.ensures.means)
    ∙ bind_got _ _ _ (sym c.in_ok-numerator.ensures.means)
    ∙ bind_fault _ _ _ (sym c.in_err-denominator.ensures))

pub returns : goal.returns
unfolding advanced yield
returns c =
    sym (bind_got _ _ _ (sym c.in_ok-steps.ensures.means)
    ∙ bind_got _ _ _ (sym c.in_ok-remainder.ensures.means)
    ∙ bind_got _ _ _ (sym c.in_ok-numerator.ensures.means)
    ∙ bind_got _ _ _ (sym c.in_ok-denominator.ensures))
