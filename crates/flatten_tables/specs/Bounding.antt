-- Tables of bounds: a row of eight for each state.
use Rattle.std.specs.Prelude.{ℕ, suc, ◌<◌, ◌≡◌, true, List, [], get_or, length}
use Rattle.chart_records.specs.Chart.{Chart, state_at, parent_of}
use Rattle.chart_records.specs.Rules.{parents, entry_marks}
use Rattle.chart_tree.specs.Table.{Tabled}
use Rattle.chart_tree.specs.declared.table.Tree.{Tree}
use Rattle.flattening.specs.Flatten.{carried_from, joined}

-- a table has such a row of each state of the chart
abbrev pub RowsOf : (ℕ → List ℕ) → Chart → List (List ℕ) → Type 0
RowsOf f c table = (s : ℕ) → s < length c.states → get_or table s [] ≡ f s

-- the bounds of a state
abbrev pub bounds_at : Chart → ℕ → List ℕ
bounds_at c s = (state_at c s).bounds

-- the bounds that a state carries from above
unfoldable pub above_of : Chart → ℕ → List ℕ
above_of c s = carried_from (suc s) c (parent_of c s)

-- the tables of a chart's states, and their joined bounds
pub record Bounded (c : Chart) (tree : Tree) (table : List (List ℕ)) : Type 0 where
  pub tabled : Tabled c tree
  pub parents : parents c ≡ true
  pub entry_marks_lem : entry_marks c ≡ true
  pub rows : RowsOf (joined c) c table
