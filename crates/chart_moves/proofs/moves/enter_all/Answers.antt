use Rattle.chart_moves.proofs.Destinations.{entered_first, entered_next, entered_last, count_is}
use borrow.Author.Rules.{rules}
use native.Mathlib.Omega.{arith}
use Rattle.chart_moves.proofs.moves.enter_all.Goals as goal

pub loop-i-init : goal.loop-i-init
loop-i-init c = λ d ts T r5 r8 M. entered_first 48 d ts _ M _ (search rules)

pub bounds-moves-i : goal.bounds-moves-i
bounds-moves-i c = omega (arith, c.min-count.ensures, c.loop-i-test.true)

pub bounds-moves-i-in-loop-i : goal.bounds-moves-i-in-loop-i
bounds-moves-i-in-loop-i c = omega (arith, c.min-count.ensures, c.loop-i-test.true)

pub loop-i-preserved : goal.loop-i-preserved
loop-i-preserved c = λ d ts T r5 r8 M.
    entered_next 48 d ts _ M _ _ _ _ (omega (arith, count_is 48 d ts _ M c.min-count.ensures, c.loop-i-test.true)) (c.loop-i.invariant d ts T r5 r8 M) (c.entered-next.ensures d T r5 r8)

pub returns : goal.returns
returns c = λ d ts T r5 r8 M. entered_last 48 d ts _ M c.loop-i.i _ _ (omega (arith, count_is 48 d ts _ M c.min-count.ensures, c.loop-i-test.false)) (c.loop-i.invariant d ts T r5 r8 M)
