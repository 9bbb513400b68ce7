use Rattle.network.proofs.Borne.{no_transition_lem}
use Rattle.network.proofs.bearing.transition_of.Goals as goal

pub returns-then-m-counts : goal.returns-then-m-counts
returns-then-m-counts c = λ n L. no_transition_lem L _ c.if-m-counts.true

pub returns : goal.returns
returns c = λ n L. (c.edge_of-e.ensures _ n L c.if-m-counts.false).transition
