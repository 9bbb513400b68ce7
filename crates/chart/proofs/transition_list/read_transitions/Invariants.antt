use Rattle.reading.specs.Reading.{byte2, recorded}
use Rattle.reading.specs.Places.{onward}
use Rattle.chart_records.specs.Layout.{transition_by, once}
use Rattle.chart_records.specs.Chart.{no_transition}
use Rattle.chart_records.proofs.Transitions.{Kept}
use Rattle.chart.proofs.transition_list.read_transitions.Given as goal

abbrev pub invariant-loop-i : goal.invariant-loop-i
invariant-loop-i l = Kept (recorded byte2 (transition_by l.counts)) no_transition once l.counts.transitions l.rest (onward l.rest l.at) (onward l.rest l.place) l.i l.once l.offsets
