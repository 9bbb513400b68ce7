use mathlib.Core.Path.{sym, ◌∙◌}
use native.Mathlib.Omega.{arith}
use Rattle.break_windows.proofs.Climbing.{climbs_falls}
use Rattle.break_windows.proofs.Passing.{sought_grown, sought_same, sought_is}
use Rattle.breaks.proofs.pass.pass.Goals as goal
use Rattle.breaks.proofs.pass.pass.Goals.{then-in_window, else-in_window}

pub loop-end-init : goal.loop-end-init
loop-end-init c = (c.requires.2.1.some, c.requires.2.1.bounded.reach, c.requires.0, c.requires.1, λ k S. S)

pub returns-then-tick-ticks : goal.returns-then-tick-ticks
returns-then-tick-ticks c = λ k S. climbs_falls _ _ (omega arith) (omega arith) c.if-tick-ticks.true

pub loop-end-preserved : goal.loop-end-preserved
loop-end-preserved c =
    let e = sym c.in_window.ensures in
    elim c.if-in_window.branch [
      | then-in_window w ↦ (omega (arith, w.count-is), omega (arith, w.count-is), omega arith, c.loop-end.invariant.3, λ k S. rw (w.count-is, w.first-is) (sought_grown _ _ _ k _ _ (c.loop-end.invariant.4 k S) c.if-tick-ticks.false (e ∙ w.if-in_window.true)))
      | else-in_window w ↦ (omega (arith, w.count-is), omega (arith, w.count-is), omega arith, c.loop-end.invariant.3, λ k S. rw (w.count-is, w.first-is) (sought_same _ _ _ k _ _ (c.loop-end.invariant.4 k S) c.if-tick-ticks.false (e ∙ w.if-in_window.false)))
    ]

pub returns : goal.returns
returns c = λ k S. sought_is (c.loop-end.invariant.4 k S) (omega arith)
