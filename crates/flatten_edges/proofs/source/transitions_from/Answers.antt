use Rattle.flatten_edges.proofs.Departs.{kept_none, kept_yes, kept_no, sourced_all}
use borrow.Author.Tests.{eq-eqb, ne_eqb}
use lib.ListN.{length-set}
use native.Mathlib.Omega.{arith}
use mathlib.Core.Path.{refl, sym, ◌∙◌}
use Rattle.flatten_edges.proofs.source.transitions_from.Goals as goal
use Rattle.flatten_edges.proofs.source.transitions_from.Goals.{then-byte_at-s, else-byte_at-s}

pub returns-then-count-gt64 : goal.returns-then-count-gt64
returns-then-count-gt64 c = λ d S e l. absurd (omega (arith, c.if-count-gt64.true))

pub loop-t-init : goal.loop-t-init
loop-t-init c = (refl, omega arith, omega arith, c.if-count-gt64.false, λ d S e. kept_none _ _ _)

pub loop-t-preserved : goal.loop-t-preserved
loop-t-preserved c =
    elim c.if-byte_at-s.branch [
      | then-byte_at-s v ↦ rw v.n-is (simp length-set c.loop-t.invariant.0, omega arith, omega arith, c.loop-t.invariant.3, λ d S e. kept_yes _ _ _ _ _ (c.loop-t.invariant.4 d S e) (omega arith) (omega arith) (eq-eqb _ _ (sym (S _ (omega arith)) ∙ sym c.byte_at.ensures ∙ v.if-byte_at-s.true)))
      | else-byte_at-s v ↦ rw v.n-is (simp length-set c.loop-t.invariant.0, omega arith, omega arith, c.loop-t.invariant.3, λ d S e. kept_no _ _ _ _ _ (c.loop-t.invariant.4 d S e) (omega arith) (ne_eqb _ _ (λ z. v.if-byte_at-s.false (c.byte_at.ensures ∙ S _ (omega arith) ∙ z))))
    ]

pub returns : goal.returns
returns c = λ d S e l. sourced_all d _ _ _ _ (c.loop-t.invariant.4 d S e) (omega (arith, c.loop-t-test.false))
