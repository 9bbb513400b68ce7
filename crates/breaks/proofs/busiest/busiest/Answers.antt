use mathlib.Core.Path.{sym}
use native.Mathlib.Omega.{arith}
use borrow.Author.Rules.{rules}
use Rattle.break_windows.proofs.Passing.{found_none, no_window}
use Rattle.breaks.proofs.Passes.{answered}
use Rattle.breaks.proofs.busiest.busiest.Goals as goal

pub returns-then-window-eq0 : goal.returns-then-window-eq0
returns-then-window-eq0 c = sym (no_window _ _ c.if-window-eq0.true)

pub returns-then-is_empty : goal.returns-then-is_empty
returns-then-is_empty c = sym (found_none _ _ (omega arith) (search rules))

pub returns : goal.returns
returns c = answered _ _ _ (omega arith) c.pass_all.ensures c.ok_or.ensures.value
