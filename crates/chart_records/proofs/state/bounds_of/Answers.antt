use mathlib.Core.Path.{◌∙◌}
use Rattle.clocks.proofs.Rows.{row_few}
use Rattle.reading.proofs.Reading.{no_answer, got_value}
use Rattle.chart_records.proofs.Ranges.{counts_range}
use Rattle.chart_records.proofs.States.{bounds_here}
use Rattle.chart_records.proofs.state.bounds_of.Goals as goal

pub returns-in-Ok : goal.returns-in-Ok
returns-in-Ok c = λ k S l. got_value (c.in-Ok.ensures ∙ row_few _ _ (counts_range _ S.in_range_lem).clocks_few ∙ bounds_here S _ l _ c.state_place-place.ensures.is)

pub returns-in-Err : goal.returns-in-Err
returns-in-Err c = λ k S l. no_answer (c.in-Err.ensures ∙ row_few _ _ (counts_range _ S.in_range_lem).clocks_few ∙ bounds_here S _ l _ c.state_place-place.ensures.is)
