use mathlib.Core.Path.{ap₂, ◌∙◌}
use mathlib.Core.Bool.{◌&&◌}
use Rattle.network_moves.proofs.Stands.{configuration_is}
use Rattle.network_moves.proofs.configuration.is_configuration.Goals as goal

pub returns : goal.returns
returns c = λ n L. ap₂ ◌&&◌ (c.stands-standing.ensures n L) (c.bounds_kept.ensures n L) ∙ configuration_is n _
