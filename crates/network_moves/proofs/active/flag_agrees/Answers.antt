use Rattle.lists.specs.Lists.{implies}
use Rattle.network_moves.proofs.active.flag_agrees.Goals as goal

pub returns : goal.returns
unfolding implies
returns c = rw c.has-flag.ensures
