use Rattle.std.proofs.Common.{ap, ◌∙◌}
use Rattle.reading.specs.Verdict.{verdict_number}
use Rattle.library.proofs.Outcomes.{checked_number}
use Rattle.library.proofs.charts.figrummy_check_chart.Goals as goal

pub returns : goal.returns
returns c = c.number_of.ensures ∙ ap verdict_number c.check.ensures ∙ checked_number _
