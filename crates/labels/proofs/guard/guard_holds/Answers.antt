use mathlib.Core.Path.{sym, ap, ◌∙◌}
use native.Mathlib.Omega.{arith}
use Rattle.reading.specs.Reading.{mapped}
use Rattle.labels.specs.Guard.{holds}
use Rattle.reading.proofs.Places.{read_err}
use Rattle.reading.proofs.Reading.{mapped_fault}
use Rattle.labels.proofs.Guards.{guard_data, guard_clock, guard_difference, guard_fault}
use Rattle.labels.proofs.guard.guard_holds.Goals as goal

pub returns-in_err-kind : goal.returns-in_err-kind
returns-in_err-kind c = read_err _ _ _ c.from_residual.ensures.1 (mapped_fault _ (guard_fault _ _ _ (sym c.in_err-kind.ensures.means)))

pub returns-in-0 : goal.returns-in-0
returns-in-0 c = c.data_guard_holds.ensures _ ∙ sym (ap (mapped (holds _ _)) (guard_data _ _ _ (sym c.in_ok-kind.ensures.means) c.in-0.is))

pub returns-in-1 : goal.returns-in-1
returns-in-1 c = c.clock_guard_holds.ensures _ ∙ sym (ap (mapped (holds _ _)) (guard_clock _ _ _ (sym c.in_ok-kind.ensures.means) c.in-1.is))

pub returns-in_default : goal.returns-in_default
returns-in_default c =
    c.difference_guard_holds.ensures _ ∙ sym (ap (mapped (holds _ _)) (guard_difference _ _ _ (sym c.in_ok-kind.ensures.means) (omega arith)))
