use mathlib.Core.Path.{sym, ap, ◌∙◌}
use Rattle.reading.specs.Reading.{mapped}
use Rattle.reading.proofs.Places.{bind_got, bind_fault, read_err}
use Rattle.reading.proofs.Reading.{mapped_fault}
use Rattle.network_records.specs.Network.{edge}
use Rattle.network_records.specs.Edges.{edge_from_tested, keeps_once}
use Rattle.network_records.proofs.edge.read_edge.Goals as goal

pub returns-in_err-at1 : goal.returns-in_err-at1
unfolding edge edge_from_tested
returns-in_err-at1 c = λ g. read_err _ _ _ c.from_residual.ensures.1
    (mapped_fault keeps_once (bind_fault _ _ _ (sym c.in_err-at1.ensures.means)))

pub returns-in_err-at2 : goal.returns-in_err-at2
unfolding edge edge_from_tested
returns-in_err-at2 c = λ g. read_err _ _ _ c.from_residual-in_err-at2.ensures.1
    (mapped_fault keeps_once (bind_got _ _ _ (sym c.in_ok-at1.ensures.means) ∙ bind_fault _ _ _ (sym c.in_err-at2.ensures.means)))

pub returns-in_err-at3 : goal.returns-in_err-at3
unfolding edge edge_from_tested
returns-in_err-at3 c = λ g. read_err _ _ _ c.from_residual-in_err-at3.ensures.1
    (mapped_fault keeps_once (bind_got _ _ _ (sym c.in_ok-at1.ensures.means) ∙ bind_got _ _ _ (sym c.in_ok-at2.ensures.means) ∙ bind_fault _ _ _ (sym c.in_err-at3.ensures)))

pub returns-in_err-exit : goal.returns-in_err-exit
unfolding edge edge_from_tested
returns-in_err-exit c = λ g. read_err _ _ _ c.from_residual-in_err-exit.ensures.1
    (mapped_fault keeps_once (bind_got _ _ _ (sym c.in_ok-at1.ensures.means) ∙ bind_got _ _ _ (sym c.in_ok-at2.ensures.means) ∙ bind_got _ _ _ (sym c.in_ok-at3.ensures) ∙ bind_fault _ _ _ (sym c.in_err-exit.ensures)))

pub returns : goal.returns
unfolding edge edge_from_tested
returns c = λ g. c.read_from_tested.ensures g _ _ _
    ∙ sym (ap (mapped keeps_once) (bind_got _ _ _ (sym c.in_ok-at1.ensures.means)
    ∙ bind_got _ _ _ (sym c.in_ok-at2.ensures.means)
    ∙ bind_got _ _ _ (sym c.in_ok-at3.ensures)
    ∙ bind_got _ _ _ (sym c.in_ok-exit.ensures)))
