use mathlib.Core.Path.{refl}
use Rattle.chart_moves.specs.Machine.{zero_configuration}
use Rattle.chart_moves.proofs.configuration.Configuration.zero.Goals as goal

pub returns : goal.returns
unfolding zero_configuration
returns c = refl
