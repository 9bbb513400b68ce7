use mathlib.Core.Path.{◌∙◌}
use Rattle.chart_records.proofs.Transitions.{laid_parts}
use Rattle.chart_records.proofs.transition.channel_of.Goals as goal

pub returns : goal.returns
returns c = λ k n L h. c.field_at.ensures ∙ (laid_parts L _ h).channel
