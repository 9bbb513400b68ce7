use Rattle.chart_moves.proofs.Activities.{single_other, single_idle, single_is}
use Rattle.chart_moves.proofs.activity.is_single.Goals as goal

pub returns-then-byte_at-ne1 : goal.returns-then-byte_at-ne1
returns-then-byte_at-ne1 c = λ d σ S e h. single_other d σ _ _ _ S _ h c.byte_at.ensures c.if-byte_at-ne1.true

pub returns-then-not-is_in : goal.returns-then-not-is_in
returns-then-not-is_in c = λ d σ S e h. single_idle d σ _ _ _ S _ c.is_in.ensures (c.if-not-is_in.true)

pub returns : goal.returns
returns c = λ d σ S e h. single_is d σ _ _ _ S _ h c.byte_at.ensures c.if-byte_at-ne1.false c.is_in.ensures (c.if-not-is_in.false) (c.active_children.ensures d σ S.rooted S.set e)
