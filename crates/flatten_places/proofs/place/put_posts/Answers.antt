use mathlib.Core.Path.{sym, ◌∙◌}
use Rattle.flattening.specs.Flatten.{post}
use Rattle.flatten_places.proofs.Placing.{listed_by, post_test, posts_yes, posts_no, posts_end, post_row_at}
use Rattle.flatten_places.proofs.place.put_posts.Goals as goal
use Rattle.flatten_places.proofs.place.put_posts.Goals.{then-is_left, else-is_left}

pub loop-t-init : goal.loop-t-init
loop-t-init c = λ k h T C n whole rest L f. L

pub loop-t-preserved : goal.loop-t-preserved
loop-t-preserved c = λ k h T C n whole rest L f.
    let i = c.loop-t.invariant k h T C n whole rest L f in
    let is = sym (post_test h T C c.args.q c.loop-t.t c.loop-t-test.true) ∙ sym c.is_left.ensures in
    elim c.if-is_left.branch [
      | then-is_left w ↦
          rw w.table-is (w.put.ensures k (post c.loop-t.t) (post_row_at k c.args.q c.args.a c.loop-t.t (is ∙ w.if-is_left.true) n) whole _
          (listed_by k whole _ (posts_yes C c.args.q c.loop-t.t rest c.loop-t-test.true (is ∙ w.if-is_left.true)) i) f)
      | else-is_left w ↦
          rw w.table-is (listed_by k whole _ (posts_no C c.args.q c.loop-t.t rest c.loop-t-test.true (is ∙ w.if-is_left.false)) i)
    ]

pub returns : goal.returns
returns c = λ k h T C n whole rest L f. listed_by k whole _ (posts_end C _ _ rest c.loop-t-test.false) (c.loop-t.invariant k h T C n whole rest L f)
