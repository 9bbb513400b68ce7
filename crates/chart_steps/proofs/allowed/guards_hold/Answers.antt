use mathlib.Core.Path.{refl}
use Rattle.labels.specs.Label.{guards_hold}
use Rattle.chart_steps.proofs.Choices.{body_here}
use Rattle.chart_steps.proofs.allowed.guards_hold.Goals as goal

pub returns : goal.returns
unfolding guards_hold
returns c = λ k L h. let b = body_here L _ h c.body_of-body.ensures refl in c.guards_hold.ensures _ _ b.0 b.1
