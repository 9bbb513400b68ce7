use mathlib.Core.Path.{sym, ap, ◌∙◌}
use Rattle.reading.specs.Reading.{mapped}
use Rattle.reading.proofs.Places.{bind_got, bind_fault, read_err}
use Rattle.reading.proofs.Reading.{mapped_fault, mapped_yield}
use Rattle.network_records.specs.Edges.{label_in, edge_from_tested, keeps_once}
use Rattle.network_records.proofs.edge.read_from_tested.Goals as goal

pub returns-in_err-tested : goal.returns-in_err-tested
unfolding edge_from_tested
returns-in_err-tested c = λ g s d t. read_err _ _ _ c.from_residual.ensures.1
    (mapped_fault keeps_once (bind_fault _ _ _ (sym c.in_err-tested.ensures)))

pub returns-in_err-at2 : goal.returns-in_err-at2
unfolding edge_from_tested
returns-in_err-at2 c = λ g s d t. read_err _ _ _ c.from_residual-in_err-at2.ensures.1
    (mapped_fault keeps_once (bind_got _ _ _ (sym c.in_ok-tested.ensures) ∙ bind_fault _ _ _ (sym c.in_err-at2.ensures)))

pub returns-in_err-written : goal.returns-in_err-written
unfolding edge_from_tested
returns-in_err-written c = λ g s d t. read_err _ _ _ c.from_residual-in_err-written.ensures.1
    (mapped_fault keeps_once (bind_got _ _ _ (sym c.in_ok-tested.ensures) ∙ bind_got _ _ _ (sym c.in_ok-at2.ensures) ∙ bind_fault _ _ _ (sym c.in_err-written.ensures.means)))

pub returns-in_err-at4 : goal.returns-in_err-at4
unfolding edge_from_tested
returns-in_err-at4 c = λ g s d t. read_err _ _ _ c.from_residual-in_err-at4.ensures.1
    (mapped_fault keeps_once (bind_got _ _ _ (sym c.in_ok-tested.ensures) ∙ bind_got _ _ _ (sym c.in_ok-at2.ensures) ∙ bind_got _ _ _ (sym c.in_ok-written.ensures.means) ∙ bind_fault _ _ _ (sym c.in_err-at4.ensures)))

pub returns : goal.returns
unfolding edge_from_tested
returns c = λ g s d t. c.read_edge_label.ensures g
    ∙ sym (ap (mapped keeps_once) (bind_got _ _ _ (sym c.in_ok-tested.ensures)
    ∙ bind_got _ _ _ (sym c.in_ok-at2.ensures)
    ∙ bind_got _ _ _ (sym c.in_ok-written.ensures.means)
    ∙ bind_got _ _ _ (sym c.in_ok-at4.ensures))
    ∙ mapped_yield keeps_once _ (label_in c.args.counts) _)
