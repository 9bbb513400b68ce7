use mathlib.Core.Path.{refl, sym, ap, ◌∙◌}
use native.Mathlib.Omega.{arith}
use Rattle.chart_records.specs.Tree.{under}
use Rattle.chart_tree.proofs.Tables.{climbs, climbed}
use Rattle.chart_tree.proofs.table.under.Goals as goal

pub loop-x-init : goal.loop-x-init
loop-x-init c = λ d r h. (h, refl)

pub returns-then-above-x : goal.returns-then-above-x
returns-then-above-x c = λ d r h.
    let i = c.loop-x.invariant d r h in
    absurd (omega (arith, c.if-above-x.true, c.byte_at-above.ensures, (climbs d _ r c.args.m c.loop-x.x i.0 c.loop-x-test.true).0))

pub loop-x-preserved : goal.loop-x-preserved
loop-x-preserved c = λ d r h.
    let i = c.loop-x.invariant d r h in
    (omega (arith, c.if-above-x.false), i.1 ∙ (climbs d _ r _ _ i.0 c.loop-x-test.true).1 ∙ ap (under d _) (sym c.byte_at-above.ensures))

pub returns : goal.returns
returns c = λ d r h. let i = c.loop-x.invariant d r h in sym (i.1 ∙ climbed d _ r _ _ i.0 c.loop-x-test.false)
