use mathlib.Core.Path.{sym, ap, ◌∙◌}
use Rattle.reading.specs.Reading.{got}
use Rattle.reading.specs.Places.{onward}
use Rattle.reading.proofs.Places.{read_err}
use Rattle.reading.proofs.Reading.{mapped_got, mapped_fault, mapped_at, fault_at, got_by}
use Rattle.updates.specs.Update.{stays, updated}
use Rattle.updates.specs.declared.update.Form.{Form}
use Rattle.updates.proofs.Updates.{update_fault, update_advance, update_assignment, assignment_fault, form_known}
use Rattle.updates.proofs.update.updated_at.Goals as goal

pub returns-in_err-form : goal.returns-in_err-form
returns-in_err-form c = read_err _ _ _ c.from_residual.ensures.1 (mapped_fault _ (update_fault _ _ _ (sym c.in_err-form.ensures)))

pub returns-in-Advance : goal.returns-in-Advance
returns-in-Advance c =
    let read = sym c.in_ok-form.ensures in
    let known = form_known _ _ _ (read ∙ ap (λ (f : Form). got f (onward c.args.s.now c.in_ok-form.from)) c.in-Advance.is) in
    got_by (c.after_advance.ensures known.2) (mapped_got _ (update_advance _ _ _ read c.in-Advance.is))

pub returns-in_err-x-in-Assignment : goal.returns-in_err-x-in-Assignment
returns-in_err-x-in-Assignment c =
    let fails = fault_at _ _ (sym c.in_err-x-in-Assignment.ensures) in
    read_err _ _ _ c.from_residual-in_err-x-in-Assignment.ensures.1
    (mapped_fault _ (assignment_fault _ _ _ (sym c.in_ok-form.ensures) c.in-Assignment.is fails))

pub returns-in_ok-x-in-Assignment : goal.returns-in_ok-x-in-Assignment
unfolding stays updated
returns-in_ok-x-in-Assignment c =
    let m = mapped_at _ _ (sym c.in_ok-x-in-Assignment.ensures) in
    got_by (c.after_assignment.ensures ∙ rw m.2) (mapped_got _ (update_assignment _ _ _ (sym c.in_ok-form.ensures) c.in-Assignment.is m.1))
