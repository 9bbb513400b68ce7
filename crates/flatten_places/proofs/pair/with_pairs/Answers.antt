use mathlib.Core.Path.{sym, ◌∙◌}
use Rattle.flatten_places.proofs.Filling.{paired_by}
use Rattle.flatten_places.proofs.Naming.{marks_yes, marks_no, marks_end}
use Rattle.flatten_places.proofs.pair.with_pairs.Goals as goal
use Rattle.flatten_places.proofs.pair.with_pairs.Goals.{then-has, else-has}

pub loop-m-init : goal.loop-m-init
loop-m-init c = λ whole rest P f. P

pub loop-m-preserved : goal.loop-m-preserved
loop-m-preserved c = λ whole rest P f.
    let i = c.loop-m.invariant whole rest P f in
    let is = sym c.has.ensures in
    elim c.if-has.branch [
      | then-has w ↦
          rw w.next-is (w.with_pair-next.ensures whole _ (paired_by whole _ (marks_yes _ _ _ rest _ c.loop-m-test.true (is ∙ w.if-has.true)) i) f)
      | else-has w ↦
          rw w.next-is (paired_by whole _ (marks_no _ _ _ rest _ c.loop-m-test.true (is ∙ w.if-has.false)) i)
    ]

pub returns : goal.returns
returns c = λ whole rest P f. paired_by whole _ (marks_end _ _ _ rest _ c.loop-m-test.false) (c.loop-m.invariant whole rest P f)
