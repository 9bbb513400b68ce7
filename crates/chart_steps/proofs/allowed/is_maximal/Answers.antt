use mathlib.Core.Path.{◌∙◌}
use Rattle.chart_steps.proofs.Choices.{maximal_by}
use Rattle.chart_steps.proofs.allowed.is_maximal.Goals as goal

pub returns : goal.returns
returns c =
    λ k R h. c.maximal.ensures ∙ maximal_by _ R _ h _ _ _ c.min-transitions.ensures c.min-count.ensures (c.receiver_homes-receivers.ensures k R)
    (c.homes_of-homes.ensures k R.ready.laid h)
