use mathlib.Core.Path.{ap, ◌∙◌}
use Rattle.reading.specs.Places.{onward}
use Rattle.labels.specs.Label.{body}
use Rattle.labels.specs.declared.label.Limits.{Limits}
use Rattle.network_moves.proofs.after.assigned_by.Goals as goal

pub returns : goal.returns
returns c = let same = ap (λ (l : Limits). body l (onward c.args.rest.now c.args.e.body)) c.limits.ensures in
    record { within = λ d K. c.assigned.ensures.within _ _ (same ∙ K.body.1); values = λ d K. c.assigned.ensures.values _ _ (same ∙ K.body.1) }
