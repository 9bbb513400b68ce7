use mathlib.Core.Path.{sym, ◌∙◌}
use native.Mathlib.Omega.{arith}
use borrow.Author.Tests.{leb-false}
use Rattle.break_windows.proofs.Climbing.{climbs_falls}
use Rattle.breaks.proofs.Blocks.{climbs_next, climbs_is}
use Rattle.breaks.proofs.order.climbs_on.Goals as goal

pub loop-end-init : goal.loop-end-init
loop-end-init c = c.requires

pub climbs_at-requires : goal.climbs_at-requires
climbs_at-requires c = (omega arith, omega arith)

pub returns-then-not-climbs_at : goal.returns-then-not-climbs_at
returns-then-not-climbs_at c = climbs_falls _ _ (omega arith) (omega arith) (leb-false _ _ (sym c.climbs_at.ensures ∙ c.if-not-climbs_at.true))

pub loop-end-preserved : goal.loop-end-preserved
loop-end-preserved c = (omega arith, omega arith, c.loop-end.invariant.2, climbs_next c.args.ticks.now _ c.loop-end.invariant.3 (sym c.climbs_at.ensures ∙ c.if-not-climbs_at.false))

pub returns : goal.returns
returns c = climbs_is c.args.ticks.now c.loop-end.invariant.3 (omega arith)
