use Rattle.std.proofs.Common.{nat_lt}
use Rattle.library.proofs.Lending.{states, Tested}
use Rattle.library.proofs.flags.are_flags.Given as goal

abbrev pub invariant-loop-i : goal.invariant-loop-i
invariant-loop-i l = Tested (λ b. nat_lt b 2) states l.bytes l.i l.good
