use mathlib.Core.Path.{sym, ◌∙◌}
use native.Mathlib.Omega.{arith}
use Rattle.lists.proofs.Parts.{drop_next}
use lib.ListN.{drop_of_length-le}
use Rattle.lists.proofs.Lists.{counted_next, counted_left, counted_all}
use Rattle.steps.proofs.step.count_senders.Goals as goal
use Rattle.steps.proofs.step.count_senders.Goals.{then-signals_on, else-signals_on}

pub loop-m-preserved : goal.loop-m-preserved
loop-m-preserved c =
    let e = drop_next _ _ _ c.loop-m-test.true in
    elim c.if-signals_on.branch [
      | then-signals_on w ↦ (omega (arith, w.senders-is), counted_next _ e _ c.loop-m.invariant.1 (sym c.signals_on.ensures ∙ w.if-signals_on.true) w.senders-is)
      | else-signals_on w ↦ (omega (arith, w.senders-is), counted_left _ e _ c.loop-m.invariant.1 (sym c.signals_on.ensures ∙ w.if-signals_on.false) w.senders-is)
    ]

pub returns : goal.returns
returns c = counted_all _ _ c.loop-m.invariant.1 (drop_of_length-le _ c.loop-m-test.false)
