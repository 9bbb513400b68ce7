use mathlib.Core.List.{List}
use Prim.Native.Nat.{ℕ, min}
use mathlib.Core.Path.{◌≡◌}
use Rattle.lists.specs.Lists.{padded}
use Rattle.reading.specs.Reading.{such, byte4}
use Rattle.clocks.specs.Clocks.{is_bound, no_bound}
use Rattle.reading.specs.Places.{onward}
use Rattle.reading.proofs.Many.{Going}
use Rattle.clocks.proofs.clock.read_row.Given as goal

abbrev pub invariant-loop-i : goal.invariant-loop-i
invariant-loop-i l = (seen : List ℕ) × Going (such byte4 is_bound) (min l.clocks 8) (onward l.s l.at) (onward l.s l.place) l.i seen × (l.row ≡ padded 8 no_bound seen)
