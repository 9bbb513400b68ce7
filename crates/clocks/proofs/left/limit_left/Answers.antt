use Rattle.clocks.specs.Clocks.{limit_left}
use Rattle.clocks.proofs.left.limit_left.Goals as goal

pub returns : goal.returns
unfolding limit_left
returns c = c.row_left.ensures
