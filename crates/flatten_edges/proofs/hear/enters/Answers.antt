use mathlib.Core.Path.{refl, sym, ◌∙◌}
use native.Mathlib.Omega.{arith}
use Rattle.flatten_edges.proofs.Hears.{enter_less, enter_not, enter_on, enter_end_yes, enter_end_no}
use Rattle.flatten_edges.proofs.hear.enters.Goals as goal

pub loop-x-init : goal.loop-x-init
loop-x-init c = λ d E h l. (h, refl)

pub returns-then-not-has : goal.returns-then-not-has
returns-then-not-has c = λ d E h l.
    let i = c.loop-x.invariant d E h l in
    sym (i.1 ∙ enter_not d _ _ E _ l _ i.0 c.loop-x-test.true c.marks_at.ensures c.has.ensures (c.if-not-has.true))

pub returns-then-above-x : goal.returns-then-above-x
returns-then-above-x c = λ d E h l.
    let i = c.loop-x.invariant d E h l in
    absurd (omega (arith, c.if-above-x.true, c.byte_at-above.ensures, enter_less d _ _ E _ l _ i.0 c.loop-x-test.true))

pub loop-x-preserved : goal.loop-x-preserved
loop-x-preserved c = λ d E h l.
    let i = c.loop-x.invariant d E h l in (
      omega (arith, c.if-above-x.false, i.0),
      i.1 ∙ enter_on d _ _ E _ l _ i.0 c.loop-x-test.true
          c.marks_at.ensures c.has.ensures (c.if-not-has.false) c.byte_at-above.ensures,
    )

pub returns-then-x-top : goal.returns-then-x-top
returns-then-x-top c = λ d E h l.
    let i = c.loop-x.invariant d E h l in
    enter_end_yes d _ _ E _ l _ i.0 c.loop-x-test.false c.if-x-top.true c.marks_at-then-x-top.ensures c.has-then-x-top.ensures ∙ sym i.1

pub returns-else-x-top : goal.returns-else-x-top
returns-else-x-top c = λ d E h l.
    let i = c.loop-x.invariant d E h l in
    enter_end_no d _ _ E _ l _ i.0 c.loop-x-test.false c.if-x-top.false ∙ sym i.1
