use mathlib.Core.Path.{sym, ap, ◌∙◌}
use Rattle.reading.specs.Reading.{yield, mapped, skipped}
use Rattle.expr.specs.Expression.{expression}
use Rattle.labels.specs.Guard.{data_guard}
use Rattle.reading.proofs.Places.{bind_got, bind_fault, reached_err}
use Rattle.reading.proofs.Reading.{mapped_fault, mapped_at, fault_at, mapped_yield}
use Rattle.labels.proofs.guard.read_data_guard.Goals as goal

pub returns-in_err-at1 : goal.returns-in_err-at1
unfolding data_guard skipped yield
returns-in_err-at1 c = reached_err _ _ _ _ c.from_residual.ensures.1 (mapped_fault _ (bind_fault _ _ _ (sym c.in_err-at1.ensures)))

pub returns-in_err-at2 : goal.returns-in_err-at2
unfolding data_guard skipped yield
returns-in_err-at2 c =
    reached_err _ _ _ _ c.from_residual-in_err-at2.ensures.1
    (mapped_fault _ (bind_got _ _ _ (sym c.in_ok-at1.ensures) ∙ bind_fault _ _ _ (fault_at _ _ (sym c.in_err-at2.ensures))))

pub returns : goal.returns
unfolding data_guard skipped yield
returns c =
    c.expression_at-2.ensures
    ∙ sym (ap (mapped (λ g. tt)) (bind_got _ _ _ (sym c.in_ok-at1.ensures) ∙ bind_got _ _ _ (mapped_at _ _ (sym c.in_ok-at2.ensures)).1)
    ∙ mapped_yield (λ g. tt) _ (expression _ 8) _)
