use mathlib.Core.Path.{◌≡◌}
use Prim.Native.Nat.{◌≤◌}
use lib.ListN.{length}
use Rattle.chart_records.specs.Chart.{Chart}
use Rattle.chart_tree.specs.Table.{Column}
use Rattle.chart_moves.specs.Machine.{is_active}
use Rattle.chart_moves.specs.Active.{Shown}
use Rattle.chart_moves.specs.declared.configuration.Configuration.{Configuration}
use Rattle.chart_moves.proofs.Active.{IsTree}
use Rattle.chart_moves.proofs.Passing.{PassedTo}
use Rattle.chart_moves.proofs.completion.complete_exits.Given as goal

abbrev pub invariant-loop-s : goal.invariant-loop-s
invariant-loop-s l = (length l.rows ≡ 48) × (l.s ≤ l.initial.s) × (l.initial.s ≤ 48) × ((c : Chart) (σ : Configuration) → IsTree c (is_active σ) → Shown c σ l.t.parents l.t.kinds l.active → Column (λ x. x.exits) c l.t.exits → l.initial.s ≡ length c.states → PassedTo c σ l.s l.rows)
