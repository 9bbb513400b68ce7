use mathlib.Core.Path.{◌∙◌}
use Rattle.flattener.proofs.Records.{head_transition}
use Rattle.flattener.proofs.record.transition_at.Goals as goal

pub returns : goal.returns
returns c e h = c.byte_at.ensures ∙ head_transition _ _ e h
