use mathlib.Core.Path.{ap₂}
use Rattle.lists.specs.Lists.{implies}
use Rattle.network_machine.proofs.step.urgency_kept.Goals as goal

pub returns : goal.returns
unfolding implies
returns c = λ n L h. ap₂ implies (c.urgent-occupied.ensures n L.located) (c.any_urgent-left.ensures n L h)
