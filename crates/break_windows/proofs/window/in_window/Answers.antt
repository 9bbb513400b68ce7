use mathlib.Core.Path.{sym, ◌∙◌}
use borrow.Author.Tests.{lt-leb}
use Rattle.break_windows.proofs.Windows.{window_by, window_below}
use Rattle.break_windows.proofs.window.in_window.Goals as goal

pub returns-then-start-tick : goal.returns-then-start-tick
returns-then-start-tick c = sym (window_by _ _ _ c.if-start-tick.true)

pub returns-else-start-tick : goal.returns-else-start-tick
returns-else-start-tick c = lt-leb _ _ c.if-start-tick.false ∙ sym (window_below _ _ _ c.if-start-tick.false)
