use mathlib.Core.Path.{sym, ◌∙◌}
use native.Mathlib.Omega.{arith}
use Rattle.break_windows.proofs.Windows.{in_window_lem}
use Rattle.break_windows.proofs.Passing.{window_from}
use Rattle.breaks.proofs.reached.breaks_before.Goals as goal

pub loop-low-init : goal.loop-low-init
loop-low-init c = (omega arith, omega arith, omega arith, in_window_lem _ _ _ (omega arith) (omega arith))

pub loop-low-preserved-then-in_window : goal.loop-low-preserved-then-in_window
loop-low-preserved-then-in_window c = (omega arith, omega arith, omega arith, sym c.in_window.ensures ∙ c.if-in_window.true)

pub loop-low-preserved : goal.loop-low-preserved
loop-low-preserved c = (omega arith, omega arith, omega arith, c.loop-low.invariant.3)

pub returns : goal.returns
returns c = (omega arith, omega arith, window_from c.args.window c.args.ticks.now c.loop-low.high c.args.end (omega arith) c.loop-low.invariant.3)
