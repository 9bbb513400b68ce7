use Rattle.flatten_edges.proofs.Children.{idle_adds}
use Rattle.flatten_edges.proofs.edge.to_idle.Goals as goal

pub returns : goal.returns
returns c = λ d T S m f.
    idle_adds d _ T _ m _ _ S _ f c.byte_at-q.ensures c.byte_at-low.ensures c.byte_at.ensures
    c.byte_at-first.ensures c.joining-e.ensures c.channel_of-before.ensures c.hear_exits.ensures
