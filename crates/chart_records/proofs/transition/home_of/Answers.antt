use mathlib.Core.Path.{ap, ◌∙◌}
use Rattle.chart_records.specs.Chart.{parent_of, home}
use Rattle.chart_records.proofs.transition.home_of.Goals as goal

pub returns : goal.returns
unfolding home parent_of
returns c = λ k L h. c.parent_of.ensures k L.stated ∙ ap (parent_of k) (c.source_of.ensures k _ L h)
