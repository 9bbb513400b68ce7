use mathlib.Core.Path.{◌≡◌}
use Prim.Native.Nat.{max}
use borrow.Author.Rules.{rules}
use native.Mathlib.Omega.{arith}
use Rattle.break_windows.proofs.Passing.{reaches_one, reaches_more}
use Rattle.breaks.proofs.reached.reached.Goals as goal

pub loop-end-init : goal.loop-end-init
loop-end-init c = reaches_one c.args.window c.args.ticks.now c.requires.0 c.requires.1

pub breaks_before-requires : goal.breaks_before-requires
breaks_before-requires c = (omega arith, omega arith, c.requires.1)

pub loop-end-preserved : goal.loop-end-preserved
loop-end-preserved c =
    let most : c.max-most.result ≡ max c.loop-end.most c.breaks_before.result = search rules in
    reaches_more c.args.window c.args.ticks.now _ _ _ c.loop-end.invariant c.loop-end-test.true c.breaks_before.ensures most

pub returns : goal.returns
returns c = c.loop-end.invariant
