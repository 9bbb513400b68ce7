use mathlib.Core.Path.{refl, sym, ap, ap₂, ◌∙◌}
use mathlib.Core.Bool.{Bool, ◌&&◌}
use Rattle.lists.specs.Lists.{has}
use Rattle.flatten_tables.proofs.Slots.{start_all, start_yes, start_no, start_end, start_test}
use Rattle.flatten_tables.proofs.number.marked_child.Goals as goal
use Rattle.flatten_tables.proofs.number.marked_child.Goals.{else-is_child-via-then-is_child+else-has, else-is_child-via-else-is_child}

pub loop-s-init : goal.loop-s-init
loop-s-init c = λ k T. start_all k _

pub returns-then-has : goal.returns-then-has
returns-then-has c = λ k T.
    let is = start_test T _ _ c.loop-s-test.true c.is_child.ensures c.marks_at-marks.ensures c.has.ensures in
    sym (c.loop-s.invariant k T ∙ start_yes T _ _ c.loop-s-test.true (is ∙ ap₂ ◌&&◌ c.if-is_child.true c.if-has.true))

pub loop-s-preserved : goal.loop-s-preserved
loop-s-preserved c = λ k T.
    c.loop-s.invariant k T ∙ start_no T _ _ c.loop-s-test.true (elim c.else-is_child.branch [
      | else-is_child-via-then-is_child+else-has w ↦
          start_test T _ _ c.loop-s-test.true c.is_child.ensures c.marks_at-marks.ensures w.has.ensures ∙ ap₂ ◌&&◌ w.if-is_child.true w.if-has.false
      | else-is_child-via-else-is_child w ↦
          start_test T _ _ c.loop-s-test.true c.is_child.ensures c.marks_at-marks.ensures refl ∙ ap (λ (b : Bool). b && has c.marks_at-marks.result 0) w.if-is_child.false
    ])

pub returns : goal.returns
returns c = λ k T. sym (c.loop-s.invariant k T ∙ start_end T _ _ c.loop-s-test.false)
