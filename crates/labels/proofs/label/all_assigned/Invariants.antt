use mathlib.Core.Path.{◌≡◌}
use mathlib.Core.List.{List}
use Rattle.lists.specs.Lists.{all}
use Rattle.updates.specs.Update.{Update, update, stays, assign}
use Rattle.reading.specs.Places.{onward}
use Rattle.reading.proofs.Many.{Going}
use Rattle.labels.proofs.label.all_assigned.Given as goal

abbrev pub invariant-loop : goal.invariant-loop
invariant-loop l = (us : List Update)
    × Going (update l.version l.variables) l.count (onward l.s l.at) (onward l.s l.place) l.counter us
    × (l.within ≡ all (stays l.old) us)
    × (l.values ≡ assign l.old us l.initial.values)
