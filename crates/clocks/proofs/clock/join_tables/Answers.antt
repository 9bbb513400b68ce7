use borrow.Author.Rules.{rules}
use mathlib.Core.Path.{◌≡◌, sym, ◌∙◌}
use mathlib.Core.List.{[]}
use lib.ListN.{length}
use Rattle.lists.proofs.Loops.{filled_none, filled_more}
use Rattle.clocks.proofs.Clocks.{length_join_tables, get_d_join_tables}
use Rattle.clocks.proofs.clock.join_tables.Goals as goal

pub loop-i-init : goal.loop-i-init
loop-i-init c = let a : length c.args.a ≡ 48 = search rules in
    let b : length c.args.b ≡ 48 = search rules in
    filled_none 48 _ _ (rw (length_join_tables, a, b)) a

pub loop-i-preserved : goal.loop-i-preserved
loop-i-preserved c = filled_more 48 _ _ _ c.loop-i.invariant [] _ c.loop-i-test.true (c.join.ensures ∙ sym (get_d_join_tables _ _ _))
