use mathlib.Core.Path.{◌≡◌}
use lib.ListN.{drop}
use Rattle.answers.specs.Checksum.{from, checksum}
use Rattle.answers.proofs.checksum.checksum.Given as goal

abbrev pub invariant-loop-b : goal.invariant-loop-b
invariant-loop-b l = checksum l.s ≡ from l.h (drop l.b-index l.s)
