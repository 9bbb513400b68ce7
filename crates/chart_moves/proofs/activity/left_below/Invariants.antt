use Rattle.chart_tree.specs.Table.{Rooted, passing}
use Rattle.chart_moves.specs.Active.{below_none}
use Rattle.chart_records.specs.Chart.{Chart}
use Rattle.lists.proofs.Loops.{Filled}
use lib.ListN.{get_or, length}
use mathlib.Core.Bool.{false, ◌&&◌}
use mathlib.Core.Path.{◌≡◌}
use Rattle.chart_moves.proofs.activity.left_below.Given as goal

abbrev pub invariant-loop-s : goal.invariant-loop-s
invariant-loop-s l = (c : Chart) → Rooted c l.t.parents → l.states ≡ length c.states → Filled 48 (passing 48 c (λ s'. get_or l.active s' false && below_none c l.sources s')) l.out l.s
