use mathlib.Core.Path.{sym, ap, ◌∙◌}
use Rattle.reading.specs.Reading.{skipped}
use Rattle.reading.proofs.Places.{bind_got, bind_fault, reached_err}
use Rattle.reading.proofs.Reading.{mapped_fault, mapped_yield}
use Rattle.chart_records.specs.Chart.{state}
use Rattle.chart_records.proofs.state.read_state.Goals as goal

pub returns-in_err-at1 : goal.returns-in_err-at1
unfolding state skipped
returns-in_err-at1 c = reached_err _ _ _ _ c.from_residual.ensures.1
    (mapped_fault _ (bind_fault _ _ _ (sym c.in_err-at1.ensures.means)))

pub returns-in_err-at2 : goal.returns-in_err-at2
unfolding state skipped
returns-in_err-at2 c = reached_err _ _ _ _ c.from_residual-in_err-at2.ensures.1
    (mapped_fault _ (bind_got _ _ _ (sym c.in_ok-at1.ensures.means)
    ∙ bind_fault _ _ _ (sym c.in_err-at2.ensures.means)))

pub returns-in_err-at3 : goal.returns-in_err-at3
unfolding state skipped
returns-in_err-at3 c = reached_err _ _ _ _ c.from_residual-in_err-at3.ensures.1
    (mapped_fault _ (bind_got _ _ _ (sym c.in_ok-at1.ensures.means)
    ∙ bind_got _ _ _ (sym c.in_ok-at2.ensures.means)
    ∙ bind_fault _ _ _ (sym c.in_err-at3.ensures)))

pub returns-in_err-at4 : goal.returns-in_err-at4
unfolding state skipped
returns-in_err-at4 c = reached_err _ _ _ _ c.from_residual-in_err-at4.ensures.1
    (mapped_fault _ (bind_got _ _ _ (sym c.in_ok-at1.ensures.means)
    ∙ bind_got _ _ _ (sym c.in_ok-at2.ensures.means)
    ∙ bind_got _ _ _ (sym c.in_ok-at3.ensures)
    ∙ bind_fault _ _ _ (sym c.in_err-at4.ensures)))

pub returns : goal.returns
unfolding state skipped
returns c =
    c.read_bounds.ensures ∙ sym (ap skipped (bind_got _ _ _ (sym c.in_ok-at1.ensures.means)
    ∙ bind_got _ _ _ (sym c.in_ok-at2.ensures.means)
    ∙ bind_got _ _ _ (sym c.in_ok-at3.ensures)
    ∙ bind_got _ _ _ (sym c.in_ok-at4.ensures)) ∙ mapped_yield _ _ _ _)
