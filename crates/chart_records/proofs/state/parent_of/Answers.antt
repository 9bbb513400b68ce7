use mathlib.Core.Path.{sym, ap, ◌∙◌}
use Rattle.chart_records.specs.Chart.{State}
use Rattle.chart_records.proofs.States.{unknown, parent_here}
use Rattle.chart_records.proofs.state.parent_of.Goals as goal

pub returns-then-s-counts : goal.returns-then-s-counts
returns-then-s-counts c = λ k S. sym (ap (λ (x : State). x.parent) (unknown S _ c.if-s-counts.true))

pub returns : goal.returns
returns c = λ k S. c.byte_at.ensures ∙ parent_here S _ c.if-s-counts.false _ c.state_place.ensures.is
