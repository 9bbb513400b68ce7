use mathlib.Core.Path.{sym, ap, ◌∙◌}
use lib.ListN.{drop_of_length-le}
use Rattle.lists.specs.Lists.{all}
use Rattle.lists.proofs.Parts.{drop_next}
use Rattle.lists.proofs.Lists.{all_next, all_stop}
use Rattle.steps.proofs.step.all_take_part.Goals as goal

pub returns-then-not-takes_part : goal.returns-then-not-takes_part
returns-then-not-takes_part c = sym (c.loop-m.invariant ∙ all_stop _ (drop_next _ _ _ c.loop-m-test.true) (sym c.takes_part.ensures ∙ c.if-not-takes_part.true))

pub loop-m-preserved : goal.loop-m-preserved
loop-m-preserved c = c.loop-m.invariant ∙ all_next _ (drop_next _ _ _ c.loop-m-test.true) (sym c.takes_part.ensures ∙ c.if-not-takes_part.false)

pub returns : goal.returns
unfolding all
returns c = sym (c.loop-m.invariant ∙ ap (all _) (drop_of_length-le _ c.loop-m-test.false))
