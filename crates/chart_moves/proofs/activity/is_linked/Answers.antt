use Rattle.chart_moves.proofs.Activities.{linked_root, linked_active, linked_alone, linked_parallel}
use Rattle.chart_moves.proofs.activity.is_linked.Goals as goal

pub returns-then-s-eq0 : goal.returns-then-s-eq0
returns-then-s-eq0 c = λ d σ S h. linked_root d σ _ _ _ S _ c.if-s-eq0.true

pub returns-then-is_in : goal.returns-then-is_in
returns-then-is_in c = λ d σ S h. linked_active d σ _ _ _ S _ h c.if-s-eq0.false c.byte_at-above.ensures c.is_in.ensures c.if-is_in.true c.is_in-then-is_in.ensures

pub returns-then-byte_at-ne2 : goal.returns-then-byte_at-ne2
returns-then-byte_at-ne2 c = λ d σ S h. linked_alone d σ _ _ _ S _ h c.if-s-eq0.false c.byte_at-above.ensures c.is_in.ensures c.if-is_in.false c.byte_at.ensures c.if-byte_at-ne2.true

pub returns : goal.returns
returns c =
    λ d σ S h. linked_parallel d σ _ _ _ S _ h c.if-s-eq0.false c.byte_at-above.ensures c.is_in.ensures c.if-is_in.false c.byte_at.ensures
    c.if-byte_at-ne2.false c.is_in-2.ensures
