use mathlib.Core.Path.{sym, ◌∙◌}
use Rattle.chart_records.specs.Tree.{children}
use Rattle.flattening.specs.Flatten.{child}
use Rattle.flatten_places.proofs.Placing.{listed_by, child_test, children_yes, children_no, children_end, child_row_at}
use Rattle.flatten_places.proofs.place.put_children.Goals as goal
use Rattle.flatten_places.proofs.place.put_children.Goals.{then-is_child, else-is_child}

pub loop-s-init : goal.loop-s-init
unfolding children
loop-s-init c = λ k T F n whole rest L f. L

pub loop-s-preserved : goal.loop-s-preserved
loop-s-preserved c = λ k T F n whole rest L f.
    let i = c.loop-s.invariant k T F n whole rest L f in
    let is = sym (child_test T c.args.q c.loop-s.s c.loop-s-test.true) ∙ sym c.is_child.ensures in
    elim c.if-is_child.branch [
      | then-is_child w ↦
          rw w.table-is (w.put.ensures k (child c.loop-s.s) (child_row_at T c.args.q c.args.fixed.exits F.exits c.loop-s.s c.args.a _ c.loop-s-test.true (is ∙ w.if-is_child.true) n w.byte_at.ensures w.byte_at.type_inv) whole _
          (listed_by k whole _ (children_yes T c.args.q c.loop-s.s rest c.loop-s-test.true (is ∙ w.if-is_child.true)) i) f)
      | else-is_child w ↦
          rw w.table-is (listed_by k whole _ (children_no T c.args.q c.loop-s.s rest c.loop-s-test.true (is ∙ w.if-is_child.false)) i)
    ]

pub returns : goal.returns
returns c = λ k T F n whole rest L f. listed_by k whole _ (children_end T _ _ rest c.loop-s-test.false) (c.loop-s.invariant k T F n whole rest L f)
