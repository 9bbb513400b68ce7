use mathlib.Core.Path.{sym, ◌∙◌}
use Rattle.reading.specs.Reading.{yield}
use Rattle.labels.specs.Guard.{difference_guard, clock, holds}
use Rattle.reading.proofs.Places.{bind_got, bind_fault, read_err}
use Rattle.reading.proofs.Reading.{mapped_got, mapped_fault}
use Rattle.labels.proofs.guard.difference_guard_holds.Goals as goal

pub returns-in_err-first : goal.returns-in_err-first
unfolding difference_guard clock yield holds
returns-in_err-first c = λ vars. read_err _ _ _ c.from_residual.ensures.1 (mapped_fault _ (bind_fault _ _ _ (sym c.in_err-first.ensures.means)))

pub returns-in_err-second : goal.returns-in_err-second
unfolding difference_guard clock yield holds
returns-in_err-second c = λ vars.
    read_err _ _ _ c.from_residual-in_err-second.ensures.1
    (mapped_fault _ (bind_got _ _ _ (sym c.in_ok-first.ensures.means) ∙ bind_fault _ _ _ (sym c.in_err-second.ensures.means)))

pub returns-in_err-relation : goal.returns-in_err-relation
unfolding difference_guard clock yield holds
returns-in_err-relation c = λ vars.
    read_err _ _ _ c.from_residual-in_err-relation.ensures.1
    (mapped_fault _ (bind_got _ _ _ (sym c.in_ok-first.ensures.means)
    ∙ bind_got _ _ _ (sym c.in_ok-second.ensures.means)
    ∙ bind_fault _ _ _ (sym c.in_err-relation.ensures)))

pub returns-in_err-n : goal.returns-in_err-n
unfolding difference_guard clock yield holds
returns-in_err-n c = λ vars.
    read_err _ _ _ c.from_residual-in_err-n.ensures.1
    (mapped_fault _ (bind_got _ _ _ (sym c.in_ok-first.ensures.means)
    ∙ bind_got _ _ _ (sym c.in_ok-second.ensures.means)
    ∙ bind_got _ _ _ (sym c.in_ok-relation.ensures)
    ∙ bind_fault _ _ _ (sym c.in_err-n.ensures)))

pub returns : goal.returns
unfolding difference_guard clock yield holds
returns c = λ vars.
    rw (c.compare_clocks-holds.ensures, c.sum_of-later.ensures, c.time_of.ensures.means, c.time_of-2.ensures.means)
    (sym (mapped_got (holds vars _) (bind_got _ _ _ (sym c.in_ok-first.ensures.means)
    ∙ bind_got _ _ _ (sym c.in_ok-second.ensures.means)
    ∙ bind_got _ _ _ (sym c.in_ok-relation.ensures)
    ∙ bind_got _ _ _ (sym c.in_ok-n.ensures))))
