use mathlib.Core.Path.{sym, ap, ◌∙◌}
use Prim.Native.Nat.{ℕ}
use native.Mathlib.Omega.{arith}
use borrow.Author.Tests.{eq-eqb, ne_eqb}
use lib.Dec.{eqb}
use Rattle.chart_records.specs.Chart.{sequential}
use Rattle.chart_records.specs.Tree.{sequentials}
use Rattle.flatten_places.proofs.Filling.{automated_by, automated_all}
use Rattle.flatten_places.proofs.StateWalks.{walk_yes, walk_no, walk_end, sequential_at}
use Rattle.flatten_places.proofs.automaton.automata_of.Goals as goal
use Rattle.flatten_places.proofs.automaton.automata_of.Goals.{then-byte_at-eq1, else-byte_at-eq1}

pub loop-s-init : goal.loop-s-init
unfolding sequentials
loop-s-init c = λ k T f. c.no_automata-automata.ensures k

pub loop-s-preserved : goal.loop-s-preserved
loop-s-preserved c = λ k T f.
    let i = c.loop-s.invariant k T f in
    let is = sym (sequential_at T _ c.loop-s-test.true) ∙ sym (ap (λ (x : ℕ). eqb x 1) c.byte_at.ensures) in
    elim c.if-byte_at-eq1.branch [
      | then-byte_at-eq1 w ↦
          rw w.automata-is (w.with_automaton-automata.ensures k _ (automated_by k _ (walk_yes T (sequential k) _ c.loop-s-test.true (is ∙ eq-eqb _ 1 w.if-byte_at-eq1.true)) i) f (omega (arith, c.loop-s-test.true, T.count, T.few)))
      | else-byte_at-eq1 w ↦
          rw w.automata-is (automated_by k _ (walk_no T (sequential k) _ c.loop-s-test.true (is ∙ ne_eqb _ 1 w.if-byte_at-eq1.false)) i)
    ]

pub returns : goal.returns
returns c = λ k T f. automated_all k _ (automated_by k _ (walk_end T (sequential k) _ c.loop-s-test.false) (c.loop-s.invariant k T f)) f
