use Rattle.flatten_edges.proofs.Children.{child_adds}
use Rattle.flatten_edges.proofs.edge.from_child.Goals as goal

pub returns : goal.returns
returns c = λ d r T P L e m f. child_adds d _ T _ m (c.to_idle-n.ensures d T P m f) (c.from_source.ensures d r T P L e f)
