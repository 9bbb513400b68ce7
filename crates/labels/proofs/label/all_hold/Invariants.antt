use mathlib.Core.Path.{◌≡◌}
use mathlib.Core.Bool.{true}
use mathlib.Core.List.{List}
use Rattle.lists.specs.Lists.{all}
use Rattle.labels.specs.Guard.{Guard, guard, holds}
use Rattle.reading.specs.Places.{onward}
use Rattle.reading.proofs.Many.{Going}
use Rattle.labels.proofs.label.all_hold.Given as goal

abbrev pub invariant-loop : goal.invariant-loop
invariant-loop l = (seen : List Guard)
    × Going (guard l.clocks l.variables) l.count (onward l.s l.at) (onward l.s l.place) l.counter seen
    × (all (holds l.values l.times) seen ≡ true)
