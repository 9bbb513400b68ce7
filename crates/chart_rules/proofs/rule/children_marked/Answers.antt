use mathlib.Core.Path.{sym, ap, ◌∙◌, subst}
use native.Mathlib.Omega.{arith}
use Prim.Native.Nat.{ℕ, ◌<◌, ◌^◌}
use lib.Bits.{or_lt}
use Rattle.lists.specs.Lists.{subset}
use Rattle.lists.proofs.Bits.{subset_width}
use Rattle.chart_rules.proofs.Checks.{seen_none, seen_left, seen_more, seen_stop, seen_all, entries_small}
use Rattle.chart_rules.proofs.rule.children_marked.Goals as goal
use Rattle.chart_rules.proofs.rule.children_marked.Goals.{then-is_child+else-seen-marks-ne0, else-is_child}

pub loop-s-init : goal.loop-s-init
loop-s-init c = (omega arith, seen_none _ _ _)

pub returns-then-seen-marks-ne0 : goal.returns-then-seen-marks-ne0
returns-then-seen-marks-ne0 c = seen_stop _ _ _ _ c.loop-s.invariant.1 c.loop-s-test.true c.is_child.ensures c.if-is_child.true c.entries_of-marks.ensures c.if-seen-marks-ne0.true

pub loop-s-preserved : goal.loop-s-preserved
loop-s-preserved c =
    elim c.if-is_child.branch [
      | then-is_child+else-seen-marks-ne0 w ↦ (rw w.seen-is (or_lt 16 _ _ c.loop-s.invariant.0 (omega (arith, w.entries_of-marks.type_inv))), seen_more _ _ _ _ c.loop-s.invariant.1 c.loop-s-test.true c.is_child.ensures w.if-is_child.true w.entries_of-marks.ensures w.if-seen-marks-ne0.false w.seen-is)
      | else-is_child w ↦ (omega (arith, w.seen-is), seen_left _ _ _ _ c.loop-s.invariant.1 c.loop-s-test.true c.is_child.ensures w.if-is_child.false w.seen-is)
    ]

pub returns : goal.returns
returns c = λ k S.
    let e = c.entries_of.ensures k S in
    c.subset.ensures
    ∙ subset_width 32 k.entries c.entries_of.result _ (omega arith) (subst (λ (x : ℕ). x < 2 ^ k.entries) (sym e) (entries_small S _))
    ∙ ap (λ (x : ℕ). subset k.entries x c.loop-s.seen) e
    ∙ sym (seen_all _ _ _ _ c.loop-s.invariant.1 c.loop-s-test.false k S)
