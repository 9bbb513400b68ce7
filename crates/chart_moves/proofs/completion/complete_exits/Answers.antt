use mathlib.Core.Path.{◌∙◌}
use Prim.Native.Nat.{◌-◌}
use native.Mathlib.Omega.{arith}
use borrow.Author.Rules.{rules}
use lib.ListN.{replicate, set, length-set, get_or-replicate}
use Rattle.chart_records.proofs.Tree.{parents_at}
use Rattle.chart_moves.proofs.Active.{tree_at}
use Rattle.chart_moves.proofs.Activities.{shown_of}
use Rattle.chart_moves.proofs.Passing.{passed_none, passed_idle, passed_child, passed_root, passed_all}
use Rattle.chart_moves.proofs.completion.complete_exits.Goals as goal

pub loop-s-init : goal.loop-s-init
loop-s-init c = (
  search rules,
  omega arith,
  omega (arith, c.min-states.ensures),
  λ d σ T S X e.
      passed_none d (parents_at d S.rooted.rule) σ (replicate 48 255) c.min-states.result (omega (arith, e)) (λ x k. get_or-replicate 48 x 255 0 (omega (arith, S.rooted.few))),
)

pub loop-s-preserved-then-above-s : goal.loop-s-preserved-then-above-s
loop-s-preserved-then-above-s c = (
  length-set (set c.loop-s.rows (c.loop-s.s - 1) c.completing.result) _ _ ∙ length-set c.loop-s.rows _ _ ∙ c.loop-s.invariant.0,
  omega (arith, c.loop-s.invariant.1),
  c.loop-s.invariant.2,
  λ d σ T S X e.
      passed_child d σ T _ _ _ S c.loop-s.rows c.loop-s.s (c.loop-s.s - 1) (c.loop-s.invariant.3 d σ T S X e) (omega (arith, c.loop-s-test.true)) (omega (arith, e, c.loop-s.invariant.1, c.loop-s-test.true)) (omega (arith, c.loop-s.invariant.0, c.loop-s.invariant.1, c.loop-s.invariant.2, c.loop-s-test.true))
      c.completing.ensures c.args.t.exits X (search rules) c.byte_at-above.ensures c.unbarred_by-unbarred.ensures c.if-above-s.true,
)

pub loop-s-preserved-else-above-s : goal.loop-s-preserved-else-above-s
loop-s-preserved-else-above-s c = (
  length-set c.loop-s.rows _ _ ∙ c.loop-s.invariant.0,
  omega (arith, c.loop-s.invariant.1),
  c.loop-s.invariant.2,
  λ d σ T S X e.
      passed_root d σ T _ _ _ S c.loop-s.rows c.loop-s.s (c.loop-s.s - 1) (c.loop-s.invariant.3 d σ T S X e) (omega (arith, c.loop-s-test.true)) (omega (arith, e, c.loop-s.invariant.1, c.loop-s-test.true)) (omega (arith, c.loop-s.invariant.0, c.loop-s.invariant.1, c.loop-s.invariant.2, c.loop-s-test.true))
      c.completing.ensures c.args.t.exits X (search rules) c.byte_at-above.ensures c.unbarred_by-unbarred.ensures c.if-above-s.false,
)

pub loop-s-preserved : goal.loop-s-preserved
loop-s-preserved c = (
  length-set c.loop-s.rows _ _ ∙ c.loop-s.invariant.0,
  omega (arith, c.loop-s.invariant.1),
  c.loop-s.invariant.2,
  λ d σ T S X e.
      passed_idle d σ T _ _ _ S c.loop-s.rows c.loop-s.s (c.loop-s.s - 1) (c.loop-s.invariant.3 d σ T S X e) (omega (arith, c.loop-s-test.true)) (omega (arith, e, c.loop-s.invariant.1, c.loop-s-test.true)) (omega (arith, c.loop-s.invariant.0, c.loop-s.invariant.1, c.loop-s.invariant.2, c.loop-s-test.true))
      c.completing.ensures (search rules),
)

pub returns : goal.returns
returns c = λ d σ T r a q.
    passed_all d (parents_at d r) σ c.loop-s.rows c.loop-s.s (c.loop-s.invariant.3 d σ (tree_at d σ q) (shown_of d σ _ _ T r a) T.exits (omega (arith, c.min-states.ensures, T.count, T.few))) c.loop-s-test.false
