use native.Mathlib.Omega.{arith}
use borrow.Author.Rules.{rules}
use mathlib.Core.Path.{◌≡◌, refl, ap₂, ◌∙◌}
use Prim.Native.Nat.{min}
use Rattle.clocks.specs.Clocks.{fewest, row_left}
use Rattle.clocks.proofs.Ticks.{row_left_more, row_left_min}
use Rattle.clocks.proofs.left.row_left.Goals as goal

pub loop-i-init : goal.loop-i-init
unfolding row_left
loop-i-init c = (search rules, search rules, refl)

pub loop-i-preserved : goal.loop-i-preserved
loop-i-preserved c = (c.loop-i.invariant.0, c.loop-i.invariant.1, c.fewest-left.ensures ∙ ap₂ fewest c.ticks_left.ensures c.loop-i.invariant.2 ∙ row_left_more _ _ _ _ (omega arith) (omega arith))

pub returns : goal.returns
returns c = let e : c.loop-i.i ≡ min c.args.count 8 = omega arith in
    c.loop-i.invariant.2 ∙ rw e (row_left_min _ _ _ _ c.loop-i.invariant.0)
