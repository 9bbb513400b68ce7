use Rattle.reading.specs.Reading.{byte, recorded}
use Rattle.reading.specs.Places.{onward}
use Rattle.reading.proofs.Skips.{Skipping}
use Rattle.network_records.specs.Network.{location}
use Rattle.network_records.proofs.location.read_locations.Given as goal

abbrev pub invariant-loop : goal.invariant-loop
invariant-loop l = Skipping (recorded byte (location l.counts.automata l.counts.clocks)) l.counts.locations (onward l.rest l.at) (onward l.rest l.place) l.counter
