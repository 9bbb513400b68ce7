use Rattle.lists.proofs.Loops.{Filled}
use Rattle.network_records.specs.Network.{Network}
use Rattle.network.specs.Bearing.{transitions_of}
use Rattle.network_records.specs.Layout.{Laid}
use Rattle.network.proofs.bearing.transitions_at.Given as goal

abbrev pub invariant-loop-i : goal.invariant-loop-i
invariant-loop-i l = (n : Network) → Laid l.rest l.counts l.offsets n → Filled 16 (transitions_of n l.list) l.transitions l.i
