use mathlib.Core.Path.{sym, ◌∙◌}
use Rattle.chart_moves.proofs.activity.is_active_child.Goals as goal

pub returns-then-is_child : goal.returns-then-is_child
returns-then-is_child c = rw (sym c.is_child.ensures, c.if-is_child.true) c.is_in.ensures

pub returns-else-is_child : goal.returns-else-is_child
returns-else-is_child c = rw (c.if-is_child.false, sym (sym c.if-is_child.false ∙ c.is_child.ensures))
