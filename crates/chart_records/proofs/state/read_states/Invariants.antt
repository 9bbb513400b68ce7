use Rattle.reading.specs.Reading.{byte, recorded}
use Rattle.reading.specs.Places.{onward}
use Rattle.chart_records.specs.Chart.{state}
use Rattle.reading.proofs.Skips.{Skipping}
use Rattle.chart_records.proofs.state.read_states.Given as goal

abbrev pub invariant-loop : goal.invariant-loop
invariant-loop l = Skipping (recorded byte (state l.counts.clocks l.counts.entries l.counts.exits)) l.counts.states (onward l.s l.at) (onward l.s l.place) l.counter
