use mathlib.Core.Path.{sym, ap, ◌∙◌}
use mathlib.Core.List.{[]}
use native.Mathlib.Omega.{arith}
use Rattle.reading.specs.Reading.{skipped, mapped}
use Rattle.reading.proofs.Places.{reached_err}
use Rattle.reading.proofs.Reading.{mapped_fault, skipped_mapped}
use Rattle.labels.proofs.Guards.{guard_data, guard_clock, guard_difference, guard_fault}
use Rattle.labels.proofs.guard.read_guard.Goals as goal

pub returns-in_err-kind : goal.returns-in_err-kind
unfolding skipped
returns-in_err-kind c = reached_err _ _ _ _ c.from_residual.ensures.1 (mapped_fault _ (guard_fault _ _ _ (sym c.in_err-kind.ensures.means)))

pub returns-in-0 : goal.returns-in-0
returns-in-0 c = c.read_data_guard.ensures ∙ sym (ap skipped (guard_data _ _ _ (sym c.in_ok-kind.ensures.means) c.in-0.is))

pub returns-in_err-next-in-1 : goal.returns-in_err-next-in-1
unfolding skipped mapped
returns-in_err-next-in-1 c =
    reached_err _ _ _ _ c.from_residual-in_err-next-in-1.ensures.1
    (ap skipped (guard_clock _ _ _ (sym c.in_ok-kind.ensures.means) c.in-1.is) ∙ sym (skipped_mapped _ _) ∙ sym (ap skipped (c.in_err-next-in-1.ensures [])))

pub returns-in_ok-next-in-1 : goal.returns-in_ok-next-in-1
unfolding skipped mapped
returns-in_ok-next-in-1 c =
    ap skipped (c.in_ok-next-in-1.ensures []) ∙ skipped_mapped _ _
    ∙ sym (ap skipped (guard_clock _ _ _ (sym c.in_ok-kind.ensures.means) c.in-1.is))

pub returns-in_err-next-in_default : goal.returns-in_err-next-in_default
unfolding skipped mapped
returns-in_err-next-in_default c =
    reached_err _ _ _ _ c.from_residual-in_err-next-in_default.ensures.1
    (ap skipped (guard_difference _ _ _ (sym c.in_ok-kind.ensures.means) (omega arith)) ∙ sym (skipped_mapped _ _) ∙ sym (ap skipped (c.in_err-next-in_default.ensures [])))

pub returns-in_ok-next-in_default : goal.returns-in_ok-next-in_default
unfolding skipped mapped
returns-in_ok-next-in_default c =
    ap skipped (c.in_ok-next-in_default.ensures []) ∙ skipped_mapped _ _
    ∙ sym (ap skipped (guard_difference _ _ _ (sym c.in_ok-kind.ensures.means) (omega arith)))
