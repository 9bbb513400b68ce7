use mathlib.Core.Path.{subst}
use Rattle.tick_lines.specs.Rings.{AddedTo}
use Rattle.tick_lines.specs.declared.line.Line.TheVariants as Li
use Rattle.tick_lines.proofs.Inputs.{added_stops}
use Rattle.tick_lines.proofs.input.after_tick.Goals as goal

pub returns-in-Ok : goal.returns-in-Ok
returns-in-Ok c = λ w ring ts A. (rw c.next_line.ensures.recent (subst (AddedTo w ring ts) c.in-Ok.is A), c.next_line.ensures.line)

pub returns-in-Err : goal.returns-in-Err
returns-in-Err c = λ w ring ts A. added_stops w ring ts Li.Blank c.in-Err.why (subst (AddedTo w ring ts) c.in-Err.is A)
