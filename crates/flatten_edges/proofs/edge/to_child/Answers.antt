use Rattle.flatten_edges.proofs.Walks.{entered_adds}
use Rattle.flatten_edges.proofs.edge.to_child.Goals as goal

pub returns : goal.returns
returns c = λ d T S m f k h. entered_adds d _ _ _ T S _ _ _ m f k h c.byte_at.ensures c.joining-e.ensures c.hear_entries.ensures
