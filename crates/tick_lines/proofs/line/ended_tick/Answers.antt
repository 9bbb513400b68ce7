use mathlib.Core.Path.{◌∙◌}
use mathlib.Core.Logic.{⊎_elim}
use Rattle.tick_lines.proofs.Lines.{ended_blank, ended_digits, ended_ended, ended_bad}
use Rattle.tick_lines.proofs.line.ended_tick.Goals as goal

pub returns-in-Blank : goal.returns-in-Blank
returns-in-Blank c = ended_blank c.in-Blank.is

pub returns-in-Digits : goal.returns-in-Digits
returns-in-Digits c = c.tick_of.ensures ∙ ⊎_elim (λ e. ended_digits e) (λ e. ended_ended e) c.in-Digits.is

pub returns-in-Bad : goal.returns-in-Bad
returns-in-Bad c = ended_bad c.in-Bad.is
