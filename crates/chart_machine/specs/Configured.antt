-- The tests of a configuration, and how far a file that passes the check is known.
use Rattle.std.specs.Prelude.{◌≡◌, Bool, true, ◌&&◌, List, ℕ}
use Rattle.lists.specs.Lists.{implies}
use Rattle.clocks.specs.Clocks.{keeps, in_limit, zero_past, zeros_past}
use Rattle.chart_records.specs.Chart.{Chart, state_at}
use Rattle.chart_records.specs.Rules.{parents}
use Rattle.chart_moves.specs.Machine.{is_active, is_tree}
use Rattle.chart_records.specs.Layout.{Stated}
use Rattle.chart_tree.specs.Table.{Tabled}
use Rattle.chart_records.specs.declared.header.Counts.{Counts}
use Rattle.chart_tree.specs.declared.table.Tree.{Tree}
use Rattle.chart_moves.specs.declared.configuration.Configuration.{Configuration}

-- a state's bounds are kept if it is active
abbrev pub bound_kept : Chart → Configuration → ℕ → Bool
bound_kept c σ s = implies (is_active σ s) (keeps (state_at c s).bounds σ.clocks)

-- 17 but for the bounds, which the code tests apart
unfoldable pub stands : Chart → Configuration → Bool
stands c σ = is_tree c σ && (zeros_past c.variables σ.variables && (in_limit c.clocks σ.clocks && zero_past c.clocks σ.clocks))

-- the states of a chart that keeps rule 5, in the bytes and in tables
pub record Grown (rest : List ℕ) (n : Counts) (t : Tree) (c : Chart) : Type 0 where
  pub stated : Stated rest n c
  pub tabled : Tabled c t
  pub parents : parents c ≡ true
