use Rattle.flattening.specs.File.{out4}
use Rattle.flattener.proofs.Records.{Listing}
use Rattle.flattener.proofs.location.write_bounds.Given as goal

abbrev pub invariant-loop-bound : goal.invariant-loop-bound
invariant-loop-bound l = Listing out4 l.bound-items l.initial.out l.at l.out l.place l.bound-index
