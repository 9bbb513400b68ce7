use Rattle.chart_tree.specs.Table.{Rooted}
use Rattle.chart_moves.specs.Active.{below_none}
use Rattle.chart_records.specs.Chart.{Chart}
use lib.ListN.{length, drop}
use Prim.Native.Nat.{◌<◌}
use mathlib.Core.Path.{◌≡◌}
use Rattle.chart_moves.proofs.activity.is_below_none.Given as goal

abbrev pub invariant-loop-source : goal.invariant-loop-source
invariant-loop-source l = (c : Chart) → Rooted c l.parents → l.s < length c.states → below_none c l.sources l.s ≡ below_none c (drop l.source-index l.sources) l.s
