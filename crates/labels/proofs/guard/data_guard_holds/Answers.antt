use mathlib.Core.Path.{sym, ◌∙◌}
use Rattle.reading.specs.Reading.{yield}
use Rattle.labels.specs.Guard.{data_guard, holds}
use Rattle.reading.proofs.Places.{bind_got, bind_fault, read_err}
use Rattle.reading.proofs.Reading.{mapped_got, mapped_fault, mapped_at, fault_at}
use Rattle.labels.proofs.guard.data_guard_holds.Goals as goal

pub returns-in_err-relation : goal.returns-in_err-relation
unfolding data_guard yield holds
returns-in_err-relation c = λ times. read_err _ _ _ c.from_residual.ensures.1 (mapped_fault _ (bind_fault _ _ _ (sym c.in_err-relation.ensures)))

pub returns-in_err-x : goal.returns-in_err-x
unfolding data_guard yield holds
returns-in_err-x c = λ times.
    read_err _ _ _ c.from_residual-in_err-x.ensures.1
    (mapped_fault _ (bind_got _ _ _ (sym c.in_ok-relation.ensures) ∙ bind_fault _ _ _ (fault_at _ _ (sym c.in_err-x.ensures))))

pub returns-in_err-y : goal.returns-in_err-y
unfolding data_guard yield holds
returns-in_err-y c = λ times.
    read_err _ _ _ c.from_residual-in_err-y.ensures.1
    (mapped_fault _ (bind_got _ _ _ (sym c.in_ok-relation.ensures)
    ∙ bind_got _ _ _ (mapped_at _ _ (sym c.in_ok-x.ensures)).1
    ∙ bind_fault _ _ _ (fault_at _ _ (sym c.in_err-y.ensures))))

pub returns : goal.returns
unfolding data_guard yield holds
returns c =
    let x = mapped_at _ _ (sym c.in_ok-x.ensures) in
    let y = mapped_at _ _ (sym c.in_ok-y.ensures) in
    λ times.
    rw (c.compare_values.ensures, ← x.2, ← y.2)
    (sym (mapped_got (holds _ times) (bind_got _ _ _ (sym c.in_ok-relation.ensures) ∙ bind_got _ _ _ x.1 ∙ bind_got _ _ _ y.1)))
