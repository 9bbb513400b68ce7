use mathlib.Core.Path.{sym, ap, ◌∙◌}
use Rattle.reading.specs.Reading.{got, yield, skipped}
use mathlib.Core.Bool.{Bool}
use Rattle.updates.specs.Update.{update}
use Rattle.labels.proofs.Labels.{body_once_by}
use Rattle.labels.specs.Label.{body}
use Rattle.reading.specs.Places.{onward}
use Rattle.reading.proofs.Places.{bind_got, bind_fault, read_err}
use Rattle.reading.proofs.Reading.{mapped_got, mapped_fault, mapped_at, fault_at, many_at}
use Rattle.labels.proofs.label.read_body.Goals as goal

pub returns-in_err-guards : goal.returns-in_err-guards
unfolding body yield skipped update
returns-in_err-guards c = read_err _ _ _ c.from_residual.ensures.1 (mapped_fault _ (bind_fault _ _ _ (sym c.in_err-guards.ensures.means)))

pub returns-in_err-updates : goal.returns-in_err-updates
unfolding body yield skipped update
returns-in_err-updates c =
    read_err _ _ _ c.from_residual-in_err-updates.ensures.1
    (mapped_fault _ (bind_got _ _ _ (sym c.in_ok-guards.ensures.means) ∙ bind_fault _ _ _ (sym c.in_err-updates.ensures.means)))

pub returns-in_err-at3 : goal.returns-in_err-at3
unfolding body yield skipped update
returns-in_err-at3 c =
    read_err _ _ _ c.from_residual-in_err-at3.ensures.1
    (mapped_fault _ (bind_got _ _ _ (sym c.in_ok-guards.ensures.means)
    ∙ bind_got _ _ _ (sym c.in_ok-updates.ensures.means)
    ∙ bind_fault _ _ _ (fault_at _ _ (sym c.in_err-at3.ensures))))

pub returns-in_err-once : goal.returns-in_err-once
unfolding body yield skipped update
returns-in_err-once c =
    read_err _ _ _ c.from_residual-in_err-once.ensures.1
    (mapped_fault _ (bind_got _ _ _ (sym c.in_ok-guards.ensures.means)
    ∙ bind_got _ _ _ (sym c.in_ok-updates.ensures.means)
    ∙ bind_got _ _ _ (mapped_at _ _ (sym c.in_ok-at3.ensures)).1
    ∙ bind_fault _ _ _ (fault_at _ _ (sym c.in_err-once.ensures))))

pub returns : goal.returns
unfolding body yield skipped update
returns c =
    let m = mapped_at _ _ (sym c.in_ok-once.ensures) in
    ap (λ (x : Bool). got x (onward c.args.s.now c.in_ok-once.at4))
    (body_once_by _ (record { guards = _; updates = m.0 }) c.keeps_rule.ensures (many_at _ _ _ m.1).0 m.2)
    ∙ sym (mapped_got _ (bind_got _ _ _ (sym c.in_ok-guards.ensures.means)
    ∙ bind_got _ _ _ (sym c.in_ok-updates.ensures.means)
    ∙ bind_got _ _ _ (mapped_at _ _ (sym c.in_ok-at3.ensures)).1
    ∙ bind_got _ _ _ m.1))
