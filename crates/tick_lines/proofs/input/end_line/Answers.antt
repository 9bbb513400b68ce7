use mathlib.Core.Path.{sym, ap, ◌∙◌}
use Rattle.std.specs.Prelude.{Ok}
use Rattle.tick_lines.proofs.Inputs.{unread_stops}
use Rattle.tick_lines.proofs.input.end_line.Goals as goal

pub returns-in-Ok-None : goal.returns-in-Ok-None
returns-in-Ok-None c = λ ts H.
    rw (sym c.ended_tick.ensures ∙ c.in-Ok-None.is ∙ ap Ok c.in-Ok-None.field-0-is) (rw c.next_line.ensures.recent H, c.next_line.ensures.line)

pub returns-in-Ok-Some : goal.returns-in-Ok-Some
returns-in-Ok-Some c = λ ts H.
    rw (sym c.ended_tick.ensures ∙ c.in-Ok-Some.is ∙ ap Ok c.in-Ok-Some.field-0-is) (c.after_tick.ensures _ _ _ (c.add.ensures ts H))

pub returns-in-Err : goal.returns-in-Err
returns-in-Err c = λ ts H.
    let e = sym c.ended_tick.ensures ∙ c.in-Err.is in
    rw e (unread_stops c.args.window c.args.state.line c.in-Err.why e)
