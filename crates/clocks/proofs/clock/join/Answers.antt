use borrow.Author.Rules.{rules}
use mathlib.Core.Path.{◌≡◌, refl, sym, ◌∙◌}
use lib.ListN.{length}
use Rattle.lists.proofs.Loops.{filled_none, filled_more}
use Rattle.clocks.proofs.Clocks.{length_join, get_d_join}
use Rattle.clocks.proofs.clock.join.Goals as goal

pub loop-i-init : goal.loop-i-init
loop-i-init c = let a : length c.args.a ≡ 8 = search rules in
    let b : length c.args.b ≡ 8 = search rules in
    filled_none 8 _ _ (rw (length_join, a, b)) refl

pub loop-i-preserved : goal.loop-i-preserved
loop-i-preserved c = filled_more 8 _ _ _ c.loop-i.invariant 0 _ c.loop-i-test.true (c.min.ensures ∙ sym (get_d_join _ _ _))
