use mathlib.Core.Path.{sym, ◌∙◌}
use Rattle.reading.proofs.Places.{read_err}
use Rattle.updates.proofs.Updates.{form_advance, form_assignment, form_fault_lem}
use Rattle.updates.proofs.update.read_form.Goals as goal

pub returns-in_err-first : goal.returns-in_err-first
returns-in_err-first c = read_err _ _ _ c.from_residual.ensures.1 (form_fault_lem _ _ _ (sym c.in_err-first.ensures))

pub returns-then-first : goal.returns-then-first
returns-then-first c = c.read_advance.ensures ∙ sym (form_advance _ _ _ (sym c.in_ok-first.ensures) c.if-first.true)

pub returns-else-first : goal.returns-else-first
returns-else-first c = sym (form_assignment _ _ _ (sym c.in_ok-first.ensures) c.if-first.false)
