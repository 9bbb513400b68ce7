use Rattle.network.proofs.Offsets.{there}
use Rattle.network.proofs.laid.edge_of.Goals as goal

pub returns : goal.returns
returns c = λ k n L h. c.fields_at.ensures k _ _ (there L _ h c.offset_of-offset.ensures).1
