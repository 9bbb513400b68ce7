use mathlib.Core.Path.{sym, ◌∙◌}
use Rattle.reading.specs.Reading.{skipped}
use Rattle.updates.specs.Update.{update}
use Rattle.labels.specs.Label.{body}
use Rattle.reading.proofs.Places.{bind_got, bind_fault}
use Rattle.reading.proofs.Reading.{no_answer, got_rest, mapped_at, fault_at}
use Rattle.labels.proofs.Labels.{body_parts}
use Rattle.labels.proofs.label.assigned.Goals as goal

pub returns-in_default : goal.returns-in_default
unfolding body skipped
returns-in_default c =
    let none = bind_fault _ _ _ (sym c.in_default.ensures.means) in
    record { within = λ b t e. no_answer (sym none ∙ e); values = λ b t e. no_answer (sym none ∙ e) }

pub returns-in_default-read_byte : goal.returns-in_default-read_byte
unfolding body skipped
returns-in_default-read_byte c =
    let none = bind_got _ _ _ (sym c.in-Ok.ensures.means) ∙ bind_fault _ _ _ (sym c.in_default-read_byte.ensures.means) in
    record { within = λ b t e. no_answer (sym none ∙ e); values = λ b t e. no_answer (sym none ∙ e) }

pub returns-in_default-read_guards : goal.returns-in_default-read_guards
unfolding body skipped
returns-in_default-read_guards c =
    let guards = sym c.in-Ok.ensures.means in
    let updates = sym c.in-Ok-read_byte.ensures.means in
    let none = fault_at _ _ (sym c.in_default-read_guards.ensures) in record {
      within = λ b t e. no_answer (sym none ∙ (body_parts _ _ e guards updates).1);
      values = λ b t e. no_answer (sym none ∙ (body_parts _ _ e guards updates).1);
    }

pub returns : goal.returns
unfolding body skipped update
returns c =
    let guards = sym c.in-Ok.ensures.means in
    let updates = sym c.in-Ok-read_byte.ensures.means in
    let m = mapped_at _ _ (sym c.in-Ok-read_guards.ensures) in record {
      within = λ b t e. let w = body_parts _ _ e guards updates in c.all_assigned.ensures.within b.updates t (rw (got_rest (sym m.1 ∙ w.1)) w.2);
      values = λ b t e. let w = body_parts _ _ e guards updates in c.all_assigned.ensures.values b.updates t (rw (got_rest (sym m.1 ∙ w.1)) w.2);
    }
