use mathlib.Core.Path.{◌≡◌, sym, ap, ◌∙◌}
use mathlib.Core.List.{List}
use Prim.Native.Nat.{ℕ}
use native.Mathlib.Omega.{arith}
use Rattle.reading.specs.Reading.{Read, got, yield, mapped}
use Rattle.labels.specs.declared.label.Limits.{Limits}
use Rattle.labels.specs.Label.{Heading, label, heading}
use Rattle.reading.specs.Places.{onward}
use Rattle.reading.proofs.Places.{bind_got, bind_fault, read_err}
use Rattle.reading.proofs.Reading.{mapped_got, mapped_fault, mapped_at, fault_at}
use Rattle.chart_records.specs.Chart.{transition}
use Rattle.chart_records.specs.Layout.{once}
use Rattle.chart_records.proofs.Ranges.{counts_range}
use Rattle.chart.proofs.transition_list.read_transition.Goals as goal

-- a label of so many clocks and variables, as the code has their number
labelled : {l m : Limits} (channels : ℕ) (s : List ℕ) {q : Read Heading} → l ≡ m → q ≡ mapped heading (label l channels s) → mapped heading (label m channels s) ≡ q
labelled channels s e h = rw (← e) (sym h)

pub overflow_add-channels : goal.overflow_add-channels
overflow_add-channels c = omega (arith, counts_range _ c.requires)

pub returns-in_err-at1 : goal.returns-in_err-at1
unfolding transition
returns-in_err-at1 c = read_err _ _ _ c.from_residual.ensures.1
    (mapped_fault _ (bind_fault _ _ _ (sym c.in_err-at1.ensures.means)))

pub returns-in_err-at2 : goal.returns-in_err-at2
unfolding transition
returns-in_err-at2 c = read_err _ _ _ c.from_residual-in_err-at2.ensures.1
    (mapped_fault _ (bind_got _ _ _ (sym c.in_ok-at1.ensures.means)
    ∙ bind_fault _ _ _ (sym c.in_err-at2.ensures.means)))

pub returns-in_err-at3 : goal.returns-in_err-at3
unfolding transition
returns-in_err-at3 c = read_err _ _ _ c.from_residual-in_err-at3.ensures.1
    (mapped_fault _ (bind_got _ _ _ (sym c.in_ok-at1.ensures.means)
    ∙ bind_got _ _ _ (sym c.in_ok-at2.ensures.means)
    ∙ bind_fault _ _ _ (sym c.in_err-at3.ensures)))

pub returns-in_err-at4 : goal.returns-in_err-at4
unfolding transition
returns-in_err-at4 c = read_err _ _ _ c.from_residual-in_err-at4.ensures.1
    (mapped_fault _ (bind_got _ _ _ (sym c.in_ok-at1.ensures.means)
    ∙ bind_got _ _ _ (sym c.in_ok-at2.ensures.means)
    ∙ bind_got _ _ _ (sym c.in_ok-at3.ensures)
    ∙ bind_fault _ _ _ (sym c.in_err-at4.ensures)))

pub returns-in_err-label : goal.returns-in_err-label
unfolding transition
returns-in_err-label c = read_err _ _ _ c.from_residual-in_err-label.ensures.1
    (mapped_fault _ (bind_got _ _ _ (sym c.in_ok-at1.ensures.means)
    ∙ bind_got _ _ _ (sym c.in_ok-at2.ensures.means)
    ∙ bind_got _ _ _ (sym c.in_ok-at3.ensures)
    ∙ bind_got _ _ _ (sym c.in_ok-at4.ensures)
    ∙ bind_fault _ _ _ (fault_at _ _ (labelled _ _ c.limits.ensures c.in_err-label.ensures))))

pub returns : goal.returns
unfolding transition heading yield
returns c =
    let m = mapped_at _ _ (labelled _ _ c.limits.ensures c.in_ok-label.ensures) in
    ap (λ (h : Heading). got h.once (onward c.args.s.now c.in_ok-label.next)) (sym m.2)
    ∙ sym (mapped_got once (bind_got _ _ _ (sym c.in_ok-at1.ensures.means)
    ∙ bind_got _ _ _ (sym c.in_ok-at2.ensures.means)
    ∙ bind_got _ _ _ (sym c.in_ok-at3.ensures)
    ∙ bind_got _ _ _ (sym c.in_ok-at4.ensures) ∙ bind_got _ _ _ m.1))
