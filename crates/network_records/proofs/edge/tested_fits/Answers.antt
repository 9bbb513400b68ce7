use Rattle.lists.specs.Lists.{implies}
use Rattle.network_records.proofs.edge.tested_fits.Goals as goal

pub returns : goal.returns
unfolding implies
returns c = rw c.in_width-within.ensures
