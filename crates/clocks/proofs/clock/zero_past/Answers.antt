use native.Mathlib.Omega.{arith}
use mathlib.Core.Path.{◌≡◌, refl, sym, ap, ◌∙◌}
use mathlib.Core.List.{List}
use Prim.Native.Nat.{ℕ, ◌-◌, min}
use lib.ListN.{length, take, drop, length-drop}
use lib.Seq.{take_all}
use Rattle.std.proofs.lemmas.List.{drop_min}
use Rattle.lists.specs.Lists.{all}
use Rattle.lists.proofs.Loops.{passed_none, passed_more, passed_not, passed_all}
use Rattle.clocks.proofs.clock.zero_past.Goals as goal

-- the part that the loop goes over
past : {A : Type 0} (count k : ℕ) (xs : List A) → k ≡ min count (length xs) → take (length xs - k) (drop k xs) ≡ drop count xs
past count k xs e = take_all (length xs - k) (drop k xs) (omega (arith, length-drop k xs)) ∙ rw e (drop_min count xs)

pub loop-x-init : goal.loop-x-init
loop-x-init g c = passed_none _ _ _ _ refl

pub returns-then-not-is_zero : goal.returns-then-not-is_zero
returns-then-not-is_zero g c =
    sym (ap (all g.T.IsZero.zero) (sym (past _ _ _ c.min.ensures))
    ∙ passed_not _ _ _ 0 _ c.loop-x.invariant c.x-item.result c.loop-x-test.true (ap g.T.IsZero.zero (sym c.x-item.is) ∙ sym c.if-not-is_zero.ensures))

pub loop-x-preserved : goal.loop-x-preserved
loop-x-preserved g c =
    passed_more _ _ _ 0 _ c.loop-x.invariant c.x-item.result c.loop-x-test.true (ap g.T.IsZero.zero (sym c.x-item.is) ∙ sym c.if-not-is_zero.ensures)

pub returns : goal.returns
returns g c =
    sym (ap (all g.T.IsZero.zero) (sym (past _ _ _ c.min.ensures)) ∙ passed_all _ _ _ 0 _ c.loop-x.invariant c.loop-x-test.false)
