use mathlib.Core.Path.{◌≡◌}
use Prim.Native.Nat.{◌<◌}
use lib.ListN.{length}
use Rattle.chart_records.specs.Chart.{Chart}
use Rattle.chart_records.specs.Tree.{entered}
use Rattle.flatten_edges.specs.Hearing.{Entering}
use Rattle.flatten_edges.proofs.hear.enters.Given as goal

abbrev pub invariant-loop-x : goal.invariant-loop-x
invariant-loop-x l = (c : Chart) → Entering c l.parents l.entries → l.s < length c.states → l.e < 16 → (l.x < length c.states) × (entered c l.d l.e l.s ≡ entered c l.d l.e l.x)

abbrev pub decreases-loop-x : goal.decreases-loop-x
decreases-loop-x l = l.x
