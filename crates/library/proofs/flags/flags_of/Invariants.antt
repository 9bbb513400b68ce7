use Rattle.lists.proofs.Loops.{Filled}
use Rattle.library.specs.Flags.{flags_of}
use Rattle.library.proofs.Lending.{states}
use Rattle.library.proofs.flags.flags_of.Given as goal

abbrev pub invariant-loop-i : goal.invariant-loop-i
invariant-loop-i l = Filled states (flags_of l.bytes) l.flags l.i
