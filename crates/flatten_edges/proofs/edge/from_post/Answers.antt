use Rattle.flatten_edges.proofs.Walks.{post_adds}
use Rattle.flatten_edges.proofs.edge.from_post.Goals as goal

pub returns : goal.returns
returns c = λ d T S m f.
    post_adds d _ _ _ T S _ _ _ _ _ _ _ _ _ _ m f c.byte_at.ensures c.byte_at-source.ensures c.byte_at-exit.ensures
    c.joining-e.ensures
    c.pair_position-k.ensures c.channel_of-before.ensures c.channel_of.ensures c.own_head.ensures c.push.ensures
