use Rattle.lists.proofs.Parts.{drop_next}
use Rattle.lists.proofs.Lists.{all_next, all_stop}
use Rattle.lists.proofs.Bools.{not_yes, not_no}
use Rattle.lists.specs.Lists.{all}
use lib.ListN.{drop_of_length-le}
use mathlib.Core.Path.{refl, sym, ap, ◌∙◌}
use Rattle.chart_moves.proofs.activity.is_below_none.Goals as goal

pub loop-source-init : goal.loop-source-init
loop-source-init c = λ d R h. refl

pub returns-then-under : goal.returns-then-under
returns-then-under c = λ d R h. sym (c.loop-source.invariant d R h ∙ all_stop _ (drop_next _ _ 0 c.loop-source-test.true) (not_no (sym (c.under.ensures d R h) ∙ c.if-under.true)))

pub loop-source-preserved : goal.loop-source-preserved
loop-source-preserved c = λ d R h. c.loop-source.invariant d R h ∙ all_next _ (drop_next _ _ 0 c.loop-source-test.true) (not_yes (sym (c.under.ensures d R h) ∙ c.if-under.false))

pub returns : goal.returns
unfolding all
returns c = λ d R h. sym (c.loop-source.invariant d R h ∙ ap (all _) (drop_of_length-le _ c.loop-source-test.false))
