use lib.ListN.{length}
use Rattle.lists.proofs.Loops.{Passed}
use Rattle.clocks.proofs.clock.zero_past.Given as goal

abbrev pub invariant-loop-x : goal.invariant-loop-x
invariant-loop-x g l = Passed g.T.IsZero.zero (length l.x-items) l.x-items 0 l.x-index
