use mathlib.Core.Path.{sym, ◌∙◌}
use Rattle.chart_steps.proofs.Choices.{allowed_by}
use Rattle.chart_steps.proofs.allowed.is_allowed.Goals as goal

pub returns-in-Refused : goal.returns-in-Refused
returns-in-Refused c = λ k R h. sym (allowed_by _ R _ h _ c.in-Refused.ensures c.min-count.ensures (c.members_of-members.ensures k R.ready.laid h))

pub returns-in-Allowed : goal.returns-in-Allowed
returns-in-Allowed c = λ k R h. sym (allowed_by _ R _ h _ c.in-Allowed.ensures c.min-count.ensures (c.members_of-members.ensures k R.ready.laid h))

pub returns-in-Broadcast : goal.returns-in-Broadcast
returns-in-Broadcast c = λ k R h. c.is_maximal.ensures k R h ∙ sym (allowed_by _ R _ h _ c.in-Broadcast.ensures c.min-count.ensures (c.members_of-members.ensures k R.ready.laid h))
