use Rattle.flatten_alternatives.proofs.Chosen.{choosing_of}
use Rattle.flatten_alternatives.proofs.alternative.alternatives.Goals as goal

pub returns : goal.returns
returns c d h T F A l e n = c.chosen.ensures d (choosing_of d _ _ _ _ h T F A l) e n
