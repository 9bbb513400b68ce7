use mathlib.Core.Path.{sym, ap, ◌∙◌}
use Rattle.clocks.proofs.Ticks.{left_kept, left_broken}
use Rattle.std.specs.Prelude.{Some}
use Rattle.clocks.proofs.left.ticks_left.Goals as goal

pub returns-then-clock-bound : goal.returns-then-clock-bound
returns-then-clock-bound c = ap Some c.ticks_to.ensures ∙ sym (left_kept _ _ c.if-clock-bound.true)

pub returns-else-clock-bound : goal.returns-else-clock-bound
returns-else-clock-bound c = sym (left_broken _ _ c.if-clock-bound.false)
