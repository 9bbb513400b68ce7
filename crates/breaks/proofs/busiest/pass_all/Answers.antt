use native.Mathlib.Omega.{arith}
use Rattle.breaks.proofs.Passes.{first_some, first_sought, passed_all, ordered_yes, ordered_no}
use Rattle.breaks.proofs.busiest.pass_all.Goals as goal

pub climbs_to-requires : goal.climbs_to-requires
climbs_to-requires c = let s = first_some _ _ _ c.first_best-best.ensures c.reached.ensures.0 in (s.0, omega (arith, s.1, c.reached.ensures.1.1, c.reached.ensures.1.2))

pub returns-then-not-climbs_to : goal.returns-then-not-climbs_to
returns-then-not-climbs_to c = ordered_no c.args.ticks.now c.first_best-best.result.count c.climbs_to.result c.climbs_to.ensures (c.if-not-climbs_to.true)

pub pass_on-requires : goal.pass_on-requires
pass_on-requires c =
    let s = first_some _ _ _ c.first_best-best.ensures c.reached.ensures.0 in (
      omega (arith, s.1, c.reached.ensures.1.1, c.reached.ensures.1.2),
      (_, first_sought _ _ _ _ c.first_best-best.ensures c.requires.1 c.reached.ensures.0 (ordered_yes c.args.ticks.now _ c.climbs_to.result c.climbs_to.ensures (c.if-not-climbs_to.false))),
    )

pub returns : goal.returns
returns c =
    let S = first_sought c.args.window c.args.ticks.now _ _ c.first_best-best.ensures c.requires.1 c.reached.ensures.0 (ordered_yes c.args.ticks.now _ c.climbs_to.result c.climbs_to.ensures (c.if-not-climbs_to.false)) in
    passed_all c.args.window c.args.ticks.now c.reached.result c.pass_on.result c.reached.ensures (c.pass_on.ensures _ S)
