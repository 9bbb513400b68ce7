use mathlib.Core.Path.{◌≡◌}
use lib.ListN.{length}
use Rattle.chart_records.specs.Chart.{Chart}
use Rattle.chart_tree.specs.Table.{Column, Rooted}
use Rattle.flatten_places.specs.Tables.{FixedKinds}
use Rattle.flatten_tables.specs.Bounding.{RowsOf, bounds_at}
use Rattle.flatten_tables.proofs.Sensing.{own_since}
use Rattle.flatten_tables.proofs.bound.own_bounds.Given as goal

abbrev pub invariant-loop-s : goal.invariant-loop-s
invariant-loop-s l = (length l.table ≡ 48)
    × ((c : Chart) → Rooted c l.tree.parents → Column (λ x. x.kind) c l.tree.kinds → FixedKinds c l.fixed.kinds → l.tree.states ≡ length c.states → RowsOf (bounds_at c) c l.initial.table → RowsOf (own_since c l.s) c l.table)
