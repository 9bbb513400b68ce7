use mathlib.Core.Path.{sym, ◌∙◌}
use Rattle.labels.specs.Label.{body}
use Rattle.reading.proofs.Places.{bind_got, bind_fault}
use Rattle.reading.proofs.Reading.{no_answer}
use Rattle.labels.proofs.Labels.{body_parts}
use Rattle.labels.proofs.label.guards_hold.Goals as goal

pub returns-in_default : goal.returns-in_default
unfolding body
returns-in_default c = λ w b t e. no_answer (sym (bind_fault _ _ _ (sym c.in_default.ensures.means)) ∙ e)

pub returns-in_default-read_byte : goal.returns-in_default-read_byte
unfolding body
returns-in_default-read_byte c = λ w b t e.
    no_answer (sym (bind_got _ _ _ (sym c.in-Ok.ensures.means) ∙ bind_fault _ _ _ (sym c.in_default-read_byte.ensures.means)) ∙ e)

pub returns : goal.returns
unfolding body
returns c = λ w b t e.
    let k = body_parts _ _ e (sym c.in-Ok.ensures.means) (sym c.in-Ok-read_byte.ensures.means) in c.all_hold.ensures _ _ k.1
