use mathlib.Core.Path.{◌≡◌}
use Prim.Native.Nat.{◌-◌, ◌≤◌}
use lib.ListN.{drop}
use Rattle.network_records.specs.Network.{Network, edges_ascend}
use Rattle.network_records.specs.Layout.{Laid}
use Rattle.network.proofs.laid.all_ascend.Given as goal

abbrev pub invariant-loop-i : goal.invariant-loop-i
invariant-loop-i l = (1 ≤ l.i) × ((n : Network) → Laid l.rest l.fn.counts l.offsets n → edges_ascend n.edges ≡ edges_ascend (drop (l.i - 1) n.edges))
