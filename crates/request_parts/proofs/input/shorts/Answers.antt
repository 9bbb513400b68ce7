use mathlib.Core.Path.{sym}
use native.Mathlib.Omega.{arith}
use borrow.Author.Rules.{rules}
use Rattle.request_parts.proofs.Fills.{begun_none, begun_more, begun_all}
use Rattle.request_parts.proofs.input.shorts.Goals as goal

pub loop-i-init : goal.loop-i-init
loop-i-init c = begun_none 65536 _ _ _ (omega arith) (search rules)

pub loop-i-preserved : goal.loop-i-preserved
loop-i-preserved c = begun_more _ _ _ _ _ c.loop-i.invariant 0 _ (omega arith) c.short.ensures

pub returns : goal.returns
returns c = record { long = sym c.loop-i.invariant.long; list = begun_all _ _ _ _ _ c.loop-i.invariant (omega arith) }
