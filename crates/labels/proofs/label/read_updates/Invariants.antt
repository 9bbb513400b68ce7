use mathlib.Core.List.{List}
use Rattle.updates.specs.Update.{Update, update, targets}
use Rattle.updates.specs.Forms.{Noted}
use Rattle.reading.specs.Places.{onward}
use Rattle.reading.proofs.Many.{Going}
use Rattle.labels.proofs.label.read_updates.Given as goal

abbrev pub invariant-loop : goal.invariant-loop
invariant-loop l = (us : List Update)
    × Going (update l.version l.variables) l.count (onward l.s l.at) (onward l.s l.place) l.counter us
    × Noted (targets us) l.seen l.once
