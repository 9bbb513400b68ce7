use mathlib.Core.Path.{sym, ◌∙◌}
use Rattle.steps.specs.Cases.{takes_part}
use Rattle.steps.proofs.step.takes_part.Goals as goal

pub returns-then-signals_on : goal.returns-then-signals_on
unfolding takes_part
returns-then-signals_on c = rw (sym c.signals_on.ensures ∙ c.if-signals_on.true) c.if-signals_on.true

pub returns-else-signals_on : goal.returns-else-signals_on
unfolding takes_part
returns-else-signals_on c = rw (sym c.signals_on.ensures ∙ c.if-signals_on.false) c.signals_on-else-signals_on.ensures
