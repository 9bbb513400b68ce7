use Prim.Native.Nat.{ℕ}
use lib.Dec.{eqb}
use Rattle.chart_records.specs.Chart.{Chart, sequential}
use Rattle.chart_records.specs.Layout.{Stated}
use mathlib.Core.Path.{◌≡◌, ap}
use native.Mathlib.Omega.{arith}
use borrow.Author.Tests.{eq-eqb, ne_eqb}
use Rattle.chart_records.specs.Tree.{sequentials}
use Rattle.chart_rules.proofs.Checks.{counted_none, counted_more, counted_not, counted_end}
use Rattle.chart_rules.proofs.rule.count_sequentials.Goals as goal
use Rattle.chart_rules.proofs.rule.count_sequentials.Goals.{then-kind_of-eq1, else-kind_of-eq1}

pub loop-s-init : goal.loop-s-init
loop-s-init c = (omega arith, counted_none sequential _ _)

pub loop-s-preserved : goal.loop-s-preserved
unfolding sequential
loop-s-preserved c =
    let is : (k : Chart) → Stated _ _ k → eqb c.kind_of.result 1 ≡ sequential k _ = λ k S. ap (λ (x : ℕ). eqb x 1) (c.kind_of.ensures k S) in
    elim c.if-kind_of-eq1.branch [
      | then-kind_of-eq1 w ↦ (omega (arith, w.count-is), counted_more sequential _ _ _ c.loop-s.invariant.1 c.loop-s-test.true is (eq-eqb _ 1 w.if-kind_of-eq1.true) w.count-is)
      | else-kind_of-eq1 w ↦ (omega (arith, w.count-is), counted_not sequential _ _ _ c.loop-s.invariant.1 c.loop-s-test.true is (ne_eqb _ 1 w.if-kind_of-eq1.false) w.count-is)
    ]

pub returns : goal.returns
unfolding sequentials
returns c = counted_end sequential _ _ _ c.loop-s.invariant.1 c.loop-s-test.false
