use Rattle.chart_moves.proofs.Activities.{active_child}
use Rattle.chart_moves.specs.declared.configuration.Configuration.{Configuration}
use Rattle.chart_tree.specs.Table.{Rooted}
use Rattle.chart_moves.specs.Machine.{is_active}
use Rattle.chart_records.specs.Tree.{children}
use Rattle.chart_records.specs.Chart.{Chart}
use Rattle.lists.specs.Lists.{keep, below}
use lib.ListN.{length, drop}
use Prim.Native.Nat.{◌+◌, ◌<◌}
use mathlib.Core.Path.{◌≡◌}
use Rattle.chart_moves.proofs.activity.active_children.Given as goal

abbrev pub invariant-loop-s : goal.invariant-loop-s
invariant-loop-s l = (l.count < l.s) × ((c : Chart) (σ : Configuration) → Rooted c l.parents → σ.active ≡ l.active → l.states ≡ length c.states → l.count + length
    (keep (active_child c σ l.q) (drop l.s (below (length c.states)))) ≡ length (keep (is_active σ) (children c l.q)))
