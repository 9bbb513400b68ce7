use mathlib.Core.Path.{sym, ◌∙◌}
use native.Mathlib.Omega.{arith}
use Rattle.breaks.proofs.Blocks.{block_climbs_lem, block_falls, climbs_is}
use Rattle.breaks.proofs.order.climbs_to.Goals as goal

pub loop-k-init : goal.loop-k-init
loop-k-init c = λ i h. absurd (omega arith)

pub block_climbs-requires : goal.block_climbs-requires
block_climbs-requires c = (omega arith, omega arith)

pub returns-then-not-block_climbs : goal.returns-then-not-block_climbs
returns-then-not-block_climbs c = block_falls _ _ (omega arith) (omega arith) (sym c.block_climbs.ensures ∙ c.if-not-block_climbs.true)

pub loop-k-preserved : goal.loop-k-preserved
loop-k-preserved c = climbs_is c.args.ticks.now (block_climbs_lem c.args.ticks.now _ c.loop-k.invariant (sym c.block_climbs.ensures ∙ c.if-not-block_climbs.false)) (omega arith)

pub climbs_on-requires : goal.climbs_on-requires
climbs_on-requires c = (omega arith, omega arith, c.requires.1, climbs_is c.args.ticks.now c.loop-k.invariant (omega arith))

pub returns : goal.returns
returns c = c.climbs_on.ensures
