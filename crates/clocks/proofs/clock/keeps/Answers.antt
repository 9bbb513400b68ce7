use native.Mathlib.Omega.{arith}
use mathlib.Core.Path.{sym, ap, ◌∙◌}
use borrow.Author.Count.{below_more}
use borrow.Author.Tests.{leb-true, leb-false}
use Rattle.clocks.specs.Clocks.{is_kept}
use Rattle.clocks.proofs.Ticks.{kept_is}
use Rattle.clocks.proofs.Clocks.{keeps_by, keeps_not}
use Rattle.clocks.proofs.clock.keeps.Goals as goal

pub returns-then-is_none : goal.returns-then-is_none
returns-then-is_none c =
    sym (keeps_not _ _ c.loop-i.i (omega arith) (leb-false _ _ (sym (kept_is _ _) ∙ ap is_kept (sym c.ticks_left.ensures) ∙ c.if-is_none.ensures)))

pub loop-i-preserved : goal.loop-i-preserved
loop-i-preserved c = (
  c.loop-i.invariant.0,
  below_more _ _ c.loop-i.invariant.1 (leb-true _ _ (sym (kept_is _ _) ∙ ap is_kept (sym c.ticks_left.ensures) ∙ c.if-is_none.ensures)),
)

pub returns : goal.returns
returns c = sym (keeps_by _ _ (λ k l. c.loop-i.invariant.1 k (omega arith)))
