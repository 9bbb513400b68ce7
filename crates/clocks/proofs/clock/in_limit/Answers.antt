use native.Mathlib.Omega.{arith}
use mathlib.Core.Path.{sym}
use Rattle.clocks.proofs.Clocks.{limit_by, limit_not}
use Rattle.clocks.proofs.clock.in_limit.Goals as goal

pub returns-then-clocks-i-gt-CLOCK_LIMIT : goal.returns-then-clocks-i-gt-CLOCK_LIMIT
returns-then-clocks-i-gt-CLOCK_LIMIT c = sym (limit_not _ _ c.loop-i.i (omega arith) c.if-clocks-i-gt-CLOCK_LIMIT.true)

pub returns : goal.returns
returns c = sym (limit_by _ _ (λ k l h. c.loop-i.invariant.1 k (omega arith)))
