use Rattle.flatten_edges.specs.Sourcing.{from_state}
use Rattle.flatten_edges.proofs.Departs.{item_from, to_skip, to_more, to_all}
use Rattle.flatten_edges.proofs.Gathers.{walk_none}
use Rattle.flatten_edges.proofs.source.to_place.Goals as goal
use Rattle.flatten_edges.proofs.source.to_place.Goals.{then-byte_at-j, else-byte_at-j}

pub loop-k-init : goal.loop-k-init
loop-k-init c = λ d r s q T P L S f g m R. (walk_none _ (from_state d s) _ _, R)

pub loop-k-preserved : goal.loop-k-preserved
loop-k-preserved c = λ d r s q T P L S f g m R.
    let w = c.loop-k.invariant d r s q T P L S f g m R in
    elim c.if-byte_at-j.branch [
      | then-byte_at-j v ↦
          let o = item_from d _ T s _ _ S _ c.loop-k-test.true c.byte_at-u.ensures in
          let b = v.bear-n.ensures d r s q T P L o.0 o.1 f g m w.1 in
          rw (v.heads-is, v.sets-is, v.listed-is, v.n-is) (to_more d _ T s _ _ S q _ _ _ _ w.0 c.loop-k-test.true c.byte_at-u.ensures c.byte_at.ensures g m v.if-byte_at-j.true b.0, b.1)
      | else-byte_at-j v ↦ rw (v.heads-is, v.sets-is, v.listed-is, v.n-is) (to_skip d _ T s _ _ S q _ _ _ _ w.0 c.loop-k-test.true c.byte_at-u.ensures c.byte_at.ensures g v.if-byte_at-j.false, w.1)
    ]

pub returns : goal.returns
returns c = λ d r s q T P L S f g m R.
    let w = c.loop-k.invariant d r s q T P L S f g m R in
    (to_all d _ T s _ _ S q _ w.0 c.loop-k-test.false, w.1)
