use Rattle.reading.specs.Reading.{such, byte4}
use Rattle.clocks.specs.Clocks.{is_bound}
use Rattle.reading.specs.Places.{onward}
use Rattle.reading.proofs.Skips.{Skipping}
use Rattle.clocks.proofs.clock.read_bounds.Given as goal

abbrev pub invariant-loop : goal.invariant-loop
invariant-loop l = Skipping (such byte4 is_bound) l.clocks (onward l.s l.at) (onward l.s l.place) l.counter
