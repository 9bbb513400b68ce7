use mathlib.Core.Path.{sym, ap, ◌∙◌}
use mathlib.Core.List.{List, ◌++◌}
use Rattle.flattening.specs.Flatten.{Place, pre}
use Rattle.flatten_places.proofs.Placing.{listed_by, pair_at, pres_all, pre_test, pres_yes, pres_no, pres_end, pre_row_at}
use Rattle.flatten_places.proofs.place.put_pres.Goals as goal
use Rattle.flatten_places.proofs.place.put_pres.Goals.{then-is_child, else-is_child}

pub loop-i-init : goal.loop-i-init
loop-i-init c = λ k T P n whole rest L f. listed_by k whole _ (ap (λ (l : List Place). l ++ rest) (pres_all k _)) L

pub loop-i-preserved : goal.loop-i-preserved
loop-i-preserved c = λ k T P n whole rest L f.
    let i = c.loop-i.invariant k T P n whole rest L f in
    let is = sym (pre_test k P c.loop-i.i c.loop-i-test.true T c.args.q _ c.byte_at-s.ensures) ∙ sym c.is_child.ensures in
    elim c.if-is_child.branch [
      | then-is_child w ↦
          rw w.table-is (w.put.ensures k (pre (pair_at k c.loop-i.i)) (pre_row_at k P c.loop-i.i c.loop-i-test.true c.args.q c.args.a _ _ (is ∙ w.if-is_child.true) n c.byte_at-s.ensures w.byte_at.ensures) whole _
          (listed_by k whole _ (pres_yes k P c.loop-i.i c.loop-i-test.true c.args.q rest (is ∙ w.if-is_child.true)) i) f)
      | else-is_child w ↦
          rw w.table-is (listed_by k whole _ (pres_no k P c.loop-i.i c.loop-i-test.true c.args.q rest (is ∙ w.if-is_child.false)) i)
    ]

pub returns : goal.returns
returns c = λ k T P n whole rest L f. listed_by k whole _ (pres_end k P _ _ rest c.loop-i-test.false) (c.loop-i.invariant k T P n whole rest L f)
