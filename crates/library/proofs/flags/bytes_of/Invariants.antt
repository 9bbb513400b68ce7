use Rattle.lists.proofs.Loops.{Filled}
use Rattle.library.specs.Flags.{bytes_of}
use Rattle.library.proofs.Lending.{states}
use Rattle.library.proofs.flags.bytes_of.Given as goal

abbrev pub invariant-loop-i : goal.invariant-loop-i
invariant-loop-i l = Filled states (bytes_of l.flags) l.bytes l.i
