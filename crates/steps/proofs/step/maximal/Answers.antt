use mathlib.Core.Path.{sym, ap, ◌∙◌}
use mathlib.Core.List.{List}
use Prim.Native.Nat.{ℕ}
use borrow.Author.Tests.{eq-eqb, ne_eqb}
use lib.ListN.{drop_of_length-le}
use Rattle.lists.specs.Lists.{all, any, elem}
use Rattle.steps.specs.Moves.{none_fits}
use Rattle.lists.proofs.Parts.{drop_next}
use Rattle.lists.proofs.Lists.{any_next, any_stop}
use Rattle.steps.proofs.Steps.{none_fits_other, none_fits_next, none_fits_stop}
use Rattle.steps.proofs.step.maximal.Goals as goal

pub receivers-preserved-then-receiver : goal.receivers-preserved-then-receiver
receivers-preserved-then-receiver c = c.receivers.invariant ∙ none_fits_other _ (drop_next _ _ 0 c.receivers-test.true) c.if-receiver.true

pub loop-owner-preserved : goal.loop-owner-preserved
unfolding elem
loop-owner-preserved c = c.loop-owner.invariant ∙ any_next _ (drop_next _ _ 0 c.loop-owner-test.true) (ne_eqb _ _ c.if-owner-receiver.false)

pub receivers-preserved : goal.receivers-preserved
unfolding elem
receivers-preserved c = c.receivers.invariant ∙ none_fits_next _ (drop_next _ _ 0 c.receivers-test.true) (c.loop-owner.invariant ∙ any_stop _ (drop_next _ _ 0 c.loop-owner-test.true) (eq-eqb _ _ c.if-owner-receiver.true))

pub returns-in-receivers : goal.returns-in-receivers
unfolding elem any
returns-in-receivers c = sym (c.receivers.invariant ∙ none_fits_stop _ (drop_next _ _ 0 c.receivers-test.true) c.if-receiver.false (c.loop-owner.invariant ∙ ap (elem _) (drop_of_length-le _ c.loop-owner-test.false)))

pub returns : goal.returns
unfolding none_fits all
returns c = sym (c.receivers.invariant ∙ ap (λ (t : List ℕ). none_fits t c.args.owners.now) (drop_of_length-le _ c.receivers-test.false))
