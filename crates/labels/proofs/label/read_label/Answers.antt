use mathlib.Core.Path.{sym, ◌∙◌}
use Rattle.reading.specs.Reading.{yield}
use Rattle.labels.specs.Label.{label, heading, assigns_once}
use Rattle.reading.proofs.Places.{bind_got, bind_fault, next_got, next_fault}
use Rattle.reading.proofs.Reading.{mapped_got, mapped_fault, mapped_at, fault_at}
use Rattle.labels.proofs.Headings.{label_err}
use Rattle.labels.proofs.label.read_label.Goals as goal

pub returns-in_err-signal : goal.returns-in_err-signal
unfolding label heading assigns_once yield
returns-in_err-signal c = label_err _ _ _ c.from_residual.ensures.1 (mapped_fault _ (bind_fault _ _ _ (sym c.in_err-signal.ensures.means)))

pub returns-in_err-channel : goal.returns-in_err-channel
unfolding label heading assigns_once yield
returns-in_err-channel c =
    label_err _ _ _ c.from_residual-in_err-channel.ensures.1
    (mapped_fault _ (bind_got _ _ _ (sym c.in_ok-signal.ensures.means) ∙ bind_fault _ _ _ (sym c.in_err-channel.ensures)))

pub returns-in_err-resets : goal.returns-in_err-resets
unfolding label heading assigns_once yield
returns-in_err-resets c =
    label_err _ _ _ c.from_residual-in_err-resets.ensures.1
    (mapped_fault _ (bind_got _ _ _ (sym c.in_ok-signal.ensures.means)
    ∙ bind_got _ _ _ (sym c.in_ok-channel.ensures)
    ∙ bind_fault _ _ _ (sym c.in_err-resets.ensures)))

pub returns-in_err-once : goal.returns-in_err-once
unfolding label heading assigns_once yield
returns-in_err-once c =
    label_err _ _ _ c.from_residual-in_err-once.ensures.1
    (mapped_fault _ (bind_got _ _ _ (sym c.in_ok-signal.ensures.means)
    ∙ bind_got _ _ _ (sym c.in_ok-channel.ensures)
    ∙ bind_got _ _ _ (sym c.in_ok-resets.ensures)
    ∙ next_fault _ (fault_at _ _ (sym c.in_err-once.ensures))))

pub returns : goal.returns
unfolding label heading assigns_once yield
returns c =
    let m = mapped_at _ _ (sym c.in_ok-once.ensures) in
    rw (← m.2) (sym (mapped_got heading (bind_got _ _ _ (sym c.in_ok-signal.ensures.means)
    ∙ bind_got _ _ _ (sym c.in_ok-channel.ensures)
    ∙ bind_got _ _ _ (sym c.in_ok-resets.ensures)
    ∙ next_got _ m.1)))
