use mathlib.Core.Path.{sym, ap, ◌∙◌}
use mathlib.Core.List.{map}
use borrow.Author.Tests.{eq-eqb, ne_eqb}
use lib.ListN.{drop_of_length-le}
use Rattle.lists.specs.Lists.{any, elem}
use Rattle.steps.specs.Cases.{owner_of}
use Rattle.lists.proofs.Parts.{drop_next}
use Rattle.lists.proofs.Lists.{any_next, any_stop}
use Rattle.steps.proofs.step.owned.Goals as goal

pub returns-then-m-owner : goal.returns-then-m-owner
unfolding elem
returns-then-m-owner c = sym (c.loop-m.invariant ∙ any_stop _ (ap (map owner_of) (drop_next _ _ _ c.loop-m-test.true)) (eq-eqb _ _ c.if-m-owner.true))

pub loop-m-preserved : goal.loop-m-preserved
unfolding elem
loop-m-preserved c = c.loop-m.invariant ∙ any_next _ (ap (map owner_of) (drop_next _ _ _ c.loop-m-test.true)) (ne_eqb _ _ c.if-m-owner.false)

pub returns : goal.returns
unfolding elem any
returns c = sym (c.loop-m.invariant ∙ ap (elem _) (ap (map owner_of) (drop_of_length-le _ c.loop-m-test.false)))
