use mathlib.Core.Path.{sym, ◌∙◌, ap}
use mathlib.Core.List.{◌++◌}
use Prim.Native.Nat.{ℕ, ◌+◌}
use Rattle.lists.specs.Lists.{below}
use Rattle.flatten_places.specs.Filling.{pairs_of}
use Rattle.flatten_places.proofs.Filling.{paired_by, paired_all}
use Rattle.flatten_places.proofs.Naming.{pairs_from, states_next, states_none, states_end}
use Rattle.flatten_places.proofs.pair.pairs_with.Goals as goal
use Rattle.flatten_places.proofs.pair.pairs_with.Goals.{then-marks-ne0, else-marks-ne0}

pub loop-s-init : goal.loop-s-init
loop-s-init c = λ f. c.no_pairs-next.ensures _

pub loop-s-preserved : goal.loop-s-preserved
loop-s-preserved c = λ f.
    let i = c.loop-s.invariant f in
    elim c.if-marks-ne0.branch [
      | then-marks-ne0 w ↦
          rw w.next-is (w.with_pairs-next.ensures _ _ (paired_by _ _ (states_next c.args.named.now c.args.width c.args.states c.loop-s.s c.loop-s-test.true ∙ ap (λ (x : ℕ). pairs_of c.loop-s.s x (below c.args.width) ++ pairs_from c.args.named.now c.args.width c.args.states (c.loop-s.s + 1)) (sym c.marks_at-marks.ensures)) i) f)
      | else-marks-ne0 w ↦
          rw w.next-is (paired_by _ _ (states_none c.args.named.now c.args.width c.args.states c.loop-s.s c.loop-s-test.true (sym c.marks_at-marks.ensures ∙ w.if-marks-ne0.false)) i)
    ]

pub returns : goal.returns
returns c = λ ps e f.
    rw e (paired_all _ _ (paired_by _ _ (states_end c.args.named.now c.args.width c.args.states _ c.loop-s-test.false) (c.loop-s.invariant (rw e at f))))
