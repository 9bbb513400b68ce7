use Rattle.chart_tree.proofs.Tables.{rooted_of, length_passing, get_d_passing}
use Rattle.lists.proofs.Loops.{filled_none, filled_more, filled_all}
use borrow.Author.Rules.{rules}
use mathlib.Core.Bool.{false}
use mathlib.Core.Path.{sym, ◌∙◌}
use Rattle.chart_moves.proofs.activity.left_below.Goals as goal

pub loop-s-init : goal.loop-s-init
loop-s-init c = λ d R e. filled_none 48 _ _ (length_passing 48 d _) (search rules)

pub loop-s-preserved : goal.loop-s-preserved
loop-s-preserved c = λ d R e. filled_more 48 _ _ _ (c.loop-s.invariant d R e) false _ c.loop-s-test.true (c.remains.ensures d R e ∙ sym (get_d_passing 48 d _ _ c.loop-s-test.true))

pub returns : goal.returns
returns c = λ d T r. filled_all 48 _ _ _ (c.loop-s.invariant d (rooted_of d _ T r) T.count) c.loop-s-test.false
