use native.Mathlib.Omega.{arith}
use Rattle.chart_moves.proofs.Activities.{remains_past, remains_idle, remains_by}
use Rattle.chart_moves.proofs.activity.remains.Goals as goal

pub returns-then-s-states : goal.returns-then-s-states
returns-then-s-states c = λ d R e. remains_past d _ _ e _ c.if-s-states.true

pub returns-then-not-is_in : goal.returns-then-not-is_in
returns-then-not-is_in c = λ d R e. remains_idle d _ _ e _ c.if-s-states.false c.is_in.ensures (c.if-not-is_in.true)

pub returns : goal.returns
returns c = λ d R e. remains_by d _ _ e c.if-s-states.false c.is_in.ensures (c.if-not-is_in.false) (c.is_below_none.ensures d R (omega (arith, e, c.if-s-states.false)))
