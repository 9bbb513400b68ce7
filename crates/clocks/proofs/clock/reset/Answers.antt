use borrow.Author.Rules.{rules}
use mathlib.Core.Path.{◌≡◌, refl, sym, ◌∙◌}
use lib.ListN.{length}
use Rattle.lists.proofs.Bools.{cond_yes, cond_no}
use Rattle.lists.proofs.Loops.{filled_none, filled_more}
use Rattle.clocks.proofs.Clocks.{length_reset, get_d_reset}
use Rattle.clocks.proofs.clock.reset.Goals as goal
use Rattle.clocks.proofs.clock.reset.Goals.{then-has, else-has}

pub loop-i-init : goal.loop-i-init
loop-i-init c = let e : length c.args.clocks ≡ 8 = search rules in filled_none 8 _ _ (length_reset _ _ ∙ e) refl

pub loop-i-preserved : goal.loop-i-preserved
loop-i-preserved c = filled_more 8 _ _ _ c.loop-i.invariant 0 _ c.loop-i-test.true (elim c.if-has.branch [
  | then-has w ↦ w.after-is ∙ sym (get_d_reset _ _ _ ∙ cond_yes _ _ (sym c.has.ensures ∙ w.if-has.true))
  | else-has w ↦ w.after-is ∙ sym (get_d_reset _ _ _ ∙ cond_no _ _ (sym c.has.ensures ∙ w.if-has.false))
])
