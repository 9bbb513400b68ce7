use mathlib.Core.Path.{◌≡◌}
use Rattle.chart_records.specs.Chart.{Chart}
use Rattle.flattening.specs.Flatten.{flatten}
use Rattle.flattener.specs.Records.{location_record}
use Rattle.flattener.specs.Locating.{Located}
use Rattle.flattener.proofs.Records.{Listing}
use Rattle.flattener.proofs.location.write_locations.Given as goal

abbrev pub invariant-loop-i : goal.invariant-loop-i
invariant-loop-i l = (c : Chart) → Located c l.tree l.rows l.transitions l.places l.initials → l.clocks ≡ c.clocks → Listing (location_record l.clocks) (flatten c).locations l.initial.out l.at l.out l.place l.i
