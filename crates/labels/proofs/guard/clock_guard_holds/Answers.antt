use mathlib.Core.Path.{sym, ◌∙◌}
use Rattle.reading.specs.Reading.{yield}
use Rattle.labels.specs.Guard.{clock_guard, clock, holds}
use Rattle.reading.proofs.Places.{bind_got, bind_fault, read_err}
use Rattle.reading.proofs.Reading.{mapped_got, mapped_fault}
use Rattle.labels.proofs.guard.clock_guard_holds.Goals as goal

pub returns-in_err-clock : goal.returns-in_err-clock
unfolding clock_guard clock yield holds
returns-in_err-clock c = λ vars. read_err _ _ _ c.from_residual.ensures.1 (mapped_fault _ (bind_fault _ _ _ (sym c.in_err-clock.ensures.means)))

pub returns-in_err-relation : goal.returns-in_err-relation
unfolding clock_guard clock yield holds
returns-in_err-relation c = λ vars.
    read_err _ _ _ c.from_residual-in_err-relation.ensures.1
    (mapped_fault _ (bind_got _ _ _ (sym c.in_ok-clock.ensures.means) ∙ bind_fault _ _ _ (sym c.in_err-relation.ensures)))

pub returns-in_err-n : goal.returns-in_err-n
unfolding clock_guard clock yield holds
returns-in_err-n c = λ vars.
    read_err _ _ _ c.from_residual-in_err-n.ensures.1
    (mapped_fault _ (bind_got _ _ _ (sym c.in_ok-clock.ensures.means) ∙ bind_got _ _ _ (sym c.in_ok-relation.ensures) ∙ bind_fault _ _ _ (sym c.in_err-n.ensures)))

pub returns : goal.returns
unfolding clock_guard clock yield holds
returns c = λ vars.
    rw (c.compare_clocks-holds.ensures, c.time_of.ensures.means) (sym (mapped_got (holds vars _)
    (bind_got _ _ _ (sym c.in_ok-clock.ensures.means) ∙ bind_got _ _ _ (sym c.in_ok-relation.ensures) ∙ bind_got _ _ _ (sym c.in_ok-n.ensures))))
