use Rattle.flatten_edges.proofs.Walks.{idle_skip, idle_more, idle_all}
use Rattle.flatten_edges.proofs.Gathers.{walk_none}
use Rattle.chart_records.specs.Chart.{states}
use Rattle.flatten_edges.proofs.edge.from_idle.Goals as goal
use Rattle.flatten_edges.proofs.edge.from_idle.Goals.{then-byte_at-q, else-byte_at-q}

pub loop-s-init : goal.loop-s-init
loop-s-init c = λ d T S m f. walk_none _ (states d) _ _

pub loop-s-preserved : goal.loop-s-preserved
loop-s-preserved c = λ d T S m f.
    let i = c.loop-s.invariant d T S m f in
    elim c.if-byte_at-q.branch [
      | then-byte_at-q w ↦ rw (w.heads-is, w.n-is) (idle_more d _ _ _ T S _ _ m f _ c.loop-s-test.true i c.byte_at.ensures w.if-byte_at-q.true (λ k h. w.to_child-n.ensures d T S m f k h))
      | else-byte_at-q w ↦ rw (w.heads-is, w.n-is) (idle_skip d _ _ _ T S _ _ m f _ c.loop-s-test.true i c.byte_at.ensures w.if-byte_at-q.false)
    ]

pub returns : goal.returns
returns c = λ d T S m f. idle_all d _ _ _ T S _ _ (c.loop-s.invariant d T S m f) c.loop-s-test.false
