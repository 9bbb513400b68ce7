use Rattle.std.proofs.Common.{arith, ℕ, [], ◌∙◌, sym}
use Rattle.std.proofs.Math.ListN.{length-replicate}
use Rattle.flatten_alternatives.proofs.Keeping.{kept_none}
use Rattle.flatten_alternatives.proofs.Chosen.{adding_first, adding_skip, adding_more, adding_all}
use Rattle.flatten_alternatives.proofs.Chosen.{multiplying_first, multiplying_skip, multiplying_clear, multiplying_more, multiplying_all}
use Rattle.flatten_alternatives.proofs.Chosen.{child_is, kind_fixed, kind_unfixed, kind_parallel, kind_other, gives_fixed, gives_unfixed}
use Rattle.flatten_alternatives.proofs.Chosen.{choosing_child, clear_child, own_is, own_apart, or_none}
use Rattle.flatten_alternatives.proofs.alternative.+choose_choose_parallel_choose_sequential.Goals as goal
use Rattle.flatten_alternatives.proofs.alternative.+choose_choose_parallel_choose_sequential.Goals.{choose_parallel-then-is_child, choose_parallel-else-is_child, choose_sequential-then-is_child, choose_sequential-else-is_child}

pub choose-returns-then-kind-eq0 : goal.choose-returns-then-kind-eq0
choose-returns-then-kind-eq0 t c = λ d xs ys C e r a k m.
    gives_fixed d _ _ _ _ _ C _ xs ys _ e (kind_fixed d _ _ _ _ _ C _ (omega arith) (sym c.byte_at-kind.ensures ∙ c.if-kind-eq0.true)) (c.with_fixed.ensures xs ys k m a)

pub choose-returns-then-kind-eq2 : goal.choose-returns-then-kind-eq2
choose-returns-then-kind-eq2 t c = λ d xs ys C e r a k m.
    let f = kind_unfixed d _ _ _ _ _ C _ (omega arith) (λ z. c.if-kind-eq0.false (c.byte_at-kind.ensures ∙ z)) in
    let p = kind_parallel d _ _ _ _ _ C _ (omega arith) f (sym c.byte_at-kind.ensures ∙ c.if-kind-eq2.true) in
    gives_unfixed d _ _ _ _ _ C _ xs ys _ f (c.choose_parallel.ensures d xs ys C e f p r k m)

pub choose-returns : goal.choose-returns
choose-returns t c = λ d xs ys C e r a k m.
    let f = kind_unfixed d _ _ _ _ _ C _ (omega arith) (λ z. c.if-kind-eq0.false (c.byte_at-kind.ensures ∙ z)) in
    let p = kind_other d _ _ _ _ _ C _ (omega arith) f (λ z. c.if-kind-eq2.false (c.byte_at-kind.ensures ∙ z)) in
    gives_unfixed d _ _ _ _ _ C _ xs ys _ f (c.choose_sequential.ensures d xs ys C e f p r k m)

pub choose_parallel-loop-x-init : goal.choose_parallel-loop-x-init
choose_parallel-loop-x-init t c = λ d xs C e f p r k. multiplying_first d _ _ _ _ _ C _ xs f p r k

pub choose_parallel-loop-x-preserved : goal.choose_parallel-loop-x-preserved
choose_parallel-loop-x-preserved t c =
    let h = c.loop-x-test.true in
    λ d xs C e f p r k.
    let i = c.loop-x.invariant d xs C e f p r k in
    let o = child_is d _ _ _ _ _ C _ (omega (arith, c.loop-x.auto.x)) h c.is_child.ensures in
    elim c.if-is_child.branch [
      | choose_parallel-then-is_child w ↦ let j = o ∙ w.if-is_child.true in
          rw (w.joined-is, w.made-is) (multiplying_more d _ _ _ _ _ C _ xs f p _ _ _ j i (w.choose-made.ensures d i.made [] (choosing_child d _ _ _ _ _ C _ j) e
          (multiplying_clear d _ _ _ _ _ C _ xs f p _ j i) (λ y _. or_none y) i.kept (kept_none _ (length-replicate {A = ℕ} 1024 0))))
      | choose_parallel-else-is_child w ↦ rw (w.joined-is, w.made-is) (multiplying_skip d _ _ _ _ _ C _ xs f p _ (o ∙ w.if-is_child.false) i)
    ]

pub choose_parallel-returns : goal.choose_parallel-returns
choose_parallel-returns t c = λ d xs ys C e f p r k m.
    let i = c.loop-x.invariant d xs C e f p r k in
    multiplying_all d _ _ _ _ _ C _ xs f p _ ys _ _ (omega (arith, C.few, c.loop-x-test.false)) i (c.with_each.ensures i.made ys i.kept m (λ y j. or_none y))

pub choose_sequential-loop-x-init : goal.choose_sequential-loop-x-init
choose_sequential-loop-x-init t c = λ d xs ys C e f p r k m. adding_first d _ _ _ _ _ C _ xs ys f p m

pub choose_sequential-loop-x-preserved : goal.choose_sequential-loop-x-preserved
choose_sequential-loop-x-preserved t c =
    let h = c.loop-x-test.true in
    λ d xs ys C e f p r k m.
    let i = c.loop-x.invariant d xs ys C e f p r k m in
    let o = child_is d _ _ _ _ _ C _ (omega (arith, c.loop-x.auto.x)) h c.is_child.ensures in
    let q = own_is d _ _ _ _ _ C _ f p c.set_of-own.ensures in
    elim c.if-is_child.branch [
      | choose_sequential-then-is_child w ↦ let j = o ∙ w.if-is_child.true in
          rw (w.to-is, w.total-is) (adding_more d _ _ _ _ _ C _ xs ys f p _ _ _ j i _ q
          (w.choose-total.ensures d xs _ (choosing_child d _ _ _ _ _ C _ j) e (clear_child d _ _ _ _ _ C xs _ j r) (own_apart d _ _ _ _ _ C _ xs f p r q) k i.kept))
      | choose_sequential-else-is_child w ↦ rw (w.to-is, w.total-is) (adding_skip d _ _ _ _ _ C _ xs ys f p _ (o ∙ w.if-is_child.false) i)
    ]

pub choose_sequential-returns : goal.choose_sequential-returns
choose_sequential-returns t c = λ d xs ys C e f p r k m. adding_all d _ _ _ _ _ C _ xs ys f p _ (omega (arith, C.few, c.loop-x-test.false)) (c.loop-x.invariant d xs ys C e f p r k m)
