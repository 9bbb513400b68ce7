use mathlib.Core.Path.{sym, ap, ◌∙◌}
use Rattle.reading.specs.Reading.{skipped}
use Rattle.reading.proofs.Places.{read_err}
use Rattle.reading.proofs.Reading.{mapped_got, mapped_fault, mapped_at, fault_at, got_by}
use Rattle.updates.proofs.Updates.{update_fault, update_advance, update_assignment, assignment_fault}
use Rattle.updates.proofs.update.read_update.Goals as goal

pub returns-in_err-form : goal.returns-in_err-form
returns-in_err-form c = read_err _ _ _ c.from_residual.ensures.1 (mapped_fault _ (update_fault _ _ _ (sym c.in_err-form.ensures)))

pub returns-in-Advance : goal.returns-in-Advance
returns-in-Advance c = got_by c.in-Advance.is (mapped_got _ (update_advance _ _ _ (sym c.in_ok-form.ensures) c.in-Advance.is))

pub returns-in_err-next-in-Assignment : goal.returns-in_err-next-in-Assignment
unfolding skipped
returns-in_err-next-in-Assignment c =
    let fails = fault_at _ _ (sym c.in_err-next-in-Assignment.ensures) in
    read_err _ _ _ c.from_residual-in_err-next-in-Assignment.ensures.1
    (mapped_fault _ (assignment_fault _ _ _ (sym c.in_ok-form.ensures) c.in-Assignment.is fails))

pub returns-in_ok-next-in-Assignment : goal.returns-in_ok-next-in-Assignment
unfolding skipped
returns-in_ok-next-in-Assignment c =
    let m = mapped_at _ _ (sym c.in_ok-next-in-Assignment.ensures) in
    got_by c.in-Assignment.is (mapped_got _ (update_assignment _ _ _ (sym c.in_ok-form.ensures) c.in-Assignment.is m.1))
