use Rattle.clocks.specs.Clocks.{join_tables}
use Rattle.lists.proofs.Loops.{Filled}
use Rattle.clocks.proofs.clock.join_tables.Given as goal

abbrev pub invariant-loop-i : goal.invariant-loop-i
invariant-loop-i l = Filled 48 (join_tables l.a l.b) l.joined l.i
