use Rattle.std.proofs.Common.{rules, arith, ◌∙◌, sym, ◌<◌}
use Rattle.chart_tree.proofs.Entries.{opens_marked, opens_every, enters_child, kind_basic, kind_parallel, grown_none, grown_skip, grown_more, grown_leaf, grown_all}
use Rattle.chart_tree.proofs.entry.+enter_parallel_enter_sequential.Goals as goal
use Rattle.chart_tree.proofs.entry.+enter_parallel_enter_sequential.Goals.{enter_parallel-then-is_child+in-0, enter_parallel-then-is_child+in-2, enter_parallel-then-is_child+in_default, enter_parallel-else-is_child, enter_sequential-then-is_marked_child+in-0, enter_sequential-then-is_marked_child+in-2, enter_sequential-then-is_marked_child+in_default, enter_sequential-else-is_marked_child}

pub enter_parallel-loop-x-init : goal.enter_parallel-loop-x-init
enter_parallel-loop-x-init t c = λ d E p. grown_none d _ _ _ _ _ E 48 E.rooted.few _ (search rules)

pub enter_parallel-loop-x-preserved : goal.enter_parallel-loop-x-preserved
enter_parallel-loop-x-preserved t c =
    let h = c.loop-x-test.true in
    let m : c.args.s < c.loop-x.x = omega arith in
    λ d E p.
    let i = c.loop-x.invariant d E p in
    let o = opens_every d _ _ _ _ _ E _ p m h c.is_child.ensures in
    elim c.if-is_child.branch [
      | enter_parallel-then-is_child+in-0 w ↦ rw w.out-is (grown_leaf d _ _ _ _ _ E 48 E.rooted.few _ _ _ i (o ∙ w.if-is_child.true) (kind_basic d _ _ _ _ _ E _ h (sym w.byte_at-kind.ensures ∙ w.in-0.is)))
      | enter_parallel-then-is_child+in-2 w ↦ rw w.out-is (grown_more d _ _ _ _ _ E 48 E.rooted.few _ _ _ _ i (o ∙ w.if-is_child.true) (w.enter_parallel-out.ensures d (enters_child d _ _ _ _ _ E _ (o ∙ w.if-is_child.true)) (kind_parallel d _ _ _ _ _ E _ h (sym w.byte_at-kind.ensures ∙ w.in-2.is))))
      | enter_parallel-then-is_child+in_default w ↦ rw w.out-is (grown_more d _ _ _ _ _ E 48 E.rooted.few _ _ _ _ i (o ∙ w.if-is_child.true) (w.enter_sequential-out.ensures d (enters_child d _ _ _ _ _ E _ (o ∙ w.if-is_child.true))))
      | enter_parallel-else-is_child w ↦ rw w.out-is (grown_skip d _ _ _ _ _ E 48 E.rooted.few _ _ _ i (o ∙ w.if-is_child.false))
    ]

pub enter_parallel-returns : goal.enter_parallel-returns
enter_parallel-returns t c = λ d E p. grown_all d _ _ _ _ _ E 48 E.rooted.few _ _ _ (search rules) (omega (arith, E.rooted.few, c.loop-x-test.false)) (c.loop-x.invariant d E p)

pub enter_sequential-loop-x-init : goal.enter_sequential-loop-x-init
enter_sequential-loop-x-init t c = λ d E. grown_none d _ _ _ _ _ E 48 E.rooted.few _ (search rules)

pub enter_sequential-loop-x-preserved : goal.enter_sequential-loop-x-preserved
enter_sequential-loop-x-preserved t c =
    let h = c.loop-x-test.true in
    let m : c.args.s < c.loop-x.x = omega arith in
    λ d E.
    let i = c.loop-x.invariant d E in
    let o = opens_marked d _ _ _ _ _ E _ m h c.is_marked_child.ensures in
    elim c.if-is_marked_child.branch [
      | enter_sequential-then-is_marked_child+in-0 w ↦ rw w.out-is (grown_leaf d _ _ _ _ _ E 48 E.rooted.few _ _ _ i (o ∙ w.if-is_marked_child.true) (kind_basic d _ _ _ _ _ E _ h (sym w.byte_at-kind.ensures ∙ w.in-0.is)))
      | enter_sequential-then-is_marked_child+in-2 w ↦ rw w.out-is (grown_more d _ _ _ _ _ E 48 E.rooted.few _ _ _ _ i (o ∙ w.if-is_marked_child.true) (w.enter_parallel-out.ensures d (enters_child d _ _ _ _ _ E _ (o ∙ w.if-is_marked_child.true)) (kind_parallel d _ _ _ _ _ E _ h (sym w.byte_at-kind.ensures ∙ w.in-2.is))))
      | enter_sequential-then-is_marked_child+in_default w ↦ rw w.out-is (grown_more d _ _ _ _ _ E 48 E.rooted.few _ _ _ _ i (o ∙ w.if-is_marked_child.true) (w.enter_sequential-out.ensures d (enters_child d _ _ _ _ _ E _ (o ∙ w.if-is_marked_child.true))))
      | enter_sequential-else-is_marked_child w ↦ rw w.out-is (grown_skip d _ _ _ _ _ E 48 E.rooted.few _ _ _ i (o ∙ w.if-is_marked_child.false))
    ]

pub enter_sequential-returns : goal.enter_sequential-returns
enter_sequential-returns t c = λ d E. grown_all d _ _ _ _ _ E 48 E.rooted.few _ _ _ (search rules) (omega (arith, E.rooted.few, c.loop-x-test.false)) (c.loop-x.invariant d E)
