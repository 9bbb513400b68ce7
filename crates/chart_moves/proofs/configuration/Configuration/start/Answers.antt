use Rattle.chart_moves.specs.Machine.{zero_configuration, start}
use Rattle.chart_moves.proofs.configuration.Configuration.start.Goals as goal

pub returns : goal.returns
unfolding start zero_configuration
returns c = λ rest k R. rw (c.zero.ensures, c.start_active.ensures k R.tabled R.parents R.entry_marks_lem)
