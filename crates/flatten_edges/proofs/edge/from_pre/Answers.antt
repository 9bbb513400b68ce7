use Rattle.flatten_edges.proofs.Walks.{pre_adds}
use Rattle.flatten_edges.proofs.edge.from_pre.Goals as goal

pub returns : goal.returns
returns c = λ d p T S m f a b.
    pre_adds d _ _ _ T S p _ _ _ _ _ _ _ _ m f a b c.byte_at.ensures c.joining-e.ensures
    c.pair_position-k.ensures c.channel_of.ensures c.own_head.ensures c.push.ensures
