use mathlib.Core.Path.{◌≡◌, sym, ap, ◌∙◌, subst}
use Prim.Native.Nat.{ℕ, ◌+◌, ◌-◌, ◌<◌, ◌≤◌}
use native.Mathlib.Omega.{arith}
use lib.ListN.{get_or, drop}
use Rattle.lists.specs.Lists.{ascending}
use Rattle.lists.proofs.Ascending.{ascending_next, ascending_stop, ascending_end}
use Rattle.steps.proofs.step.ascends.Goals as goal

pub returns-then-list-i : goal.returns-then-list-i
returns-then-list-i c =
    let e : c.loop-i.i ≡ c.loop-i.i - 1 + 1 = omega (arith, c.loop-i.auto.i) in
    sym (c.loop-i.invariant ∙ ascending_stop c.args.list.now (c.loop-i.i - 1) (omega (arith, c.loop-i.auto.i, c.loop-i-test.true))
    (subst (λ (k : ℕ). get_or c.args.list.now k 0 ≤ get_or c.args.list.now (c.loop-i.i - 1) 0) e c.if-list-i.true))

pub loop-i-preserved : goal.loop-i-preserved
loop-i-preserved c =
    let e : c.loop-i.i ≡ c.loop-i.i - 1 + 1 = omega (arith, c.loop-i.auto.i) in
    let f : c.loop-i.i - 1 + 1 ≡ c.loop-i.i + 1 - 1 = omega (arith, c.loop-i.auto.i) in
    c.loop-i.invariant ∙ ascending_next c.args.list.now (c.loop-i.i - 1) (omega (arith, c.loop-i.auto.i, c.loop-i-test.true))
    (subst (λ (k : ℕ). get_or c.args.list.now (c.loop-i.i - 1) 0 < get_or c.args.list.now k 0) e c.if-list-i.false)
    ∙ ap (λ (k : ℕ). ascending (drop k c.args.list.now)) f

pub returns : goal.returns
returns c = sym (c.loop-i.invariant ∙ ascending_end c.args.list.now (c.loop-i.i - 1) (omega (arith, c.loop-i.auto.i, c.loop-i-test.false)))
