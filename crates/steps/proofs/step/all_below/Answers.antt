use mathlib.Core.Path.{sym, ap, ◌∙◌}
use borrow.Author.Tests.{lt-ltb, le-ltb}
use lib.ListN.{drop_of_length-le}
use Rattle.lists.specs.Lists.{all}
use Rattle.lists.proofs.Parts.{drop_next}
use Rattle.lists.proofs.Lists.{all_next, all_stop}
use Rattle.steps.proofs.step.all_below.Goals as goal

pub returns-then-m-count : goal.returns-then-m-count
returns-then-m-count c = sym (c.loop-m.invariant ∙ all_stop _ (drop_next _ _ 0 c.loop-m-test.true) (le-ltb _ _ c.if-m-count.true))

pub loop-m-preserved : goal.loop-m-preserved
loop-m-preserved c = c.loop-m.invariant ∙ all_next _ (drop_next _ _ 0 c.loop-m-test.true) (lt-ltb _ _ c.if-m-count.false)

pub returns : goal.returns
unfolding all
returns c = sym (c.loop-m.invariant ∙ ap (all _) (drop_of_length-le _ c.loop-m-test.false))
