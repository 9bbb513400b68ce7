-- The longest wait of a chart: a wait is accepted just where it is no longer (`longest_tells`; of files `chart_tells`).
use mathlib.Core.Path.{◌≡◌, refl, sym, ap, ◌∙◌}
use mathlib.Core.Bool.{Bool, true, false, cond}
use mathlib.Core.List.{List, [], ◌∷◌, map}
use Prim.Native.Nat.{ℕ, ◌+◌, ◌≤◌, ◌<◌}
use native.Mathlib.Omega.{arith}
use lib.ListN.{length, get_or}
use Rattle.lists.specs.Lists.{keep}
use Rattle.reading.specs.Answer.{done}
use Rattle.clocks.specs.Clocks.{clock_limit, all_ticks, keeps, row_left, limit_left, later, in_limit}
use Rattle.clocks.specs.Longest.{TellsLongest}
use Rattle.lists.proofs.Bools.{parts}
use Rattle.lists.proofs.Lists.{all_map, all_keep}
use Rattle.reading.proofs.Answer.{unless_at, unless_by, done_injective}
use Rattle.clocks.proofs.Longest.{rows_left, keeps_all, rows_no_clock, rows_limited, tells_unless, tells_then, tells_rows}
use Rattle.chart_records.specs.Chart.{Chart, state_at, states}
use Rattle.chart_records.specs.Rules.{chart_of}
use Rattle.chart_records.proofs.Ranges.{chart_at_lem}
use Rattle.chart_moves.specs.Machine.{is_active, is_configuration, bounds_kept, tested, wait, ticks_under, longest, wait_of, longest_of}
use Rattle.chart_moves.specs.Longest.{LongestOfCharts}
use Rattle.chart_moves.specs.declared.configuration.Configuration.{Configuration}
use Rattle.chart_moves.proofs.Step.{configuration_bounds}

-- the clocks of a configuration are within the limit
configuration_limit : (c : Chart) (σ : Configuration) → is_configuration c σ ≡ true → in_limit c.clocks σ.clocks ≡ true
unfolding is_configuration
configuration_limit c σ h = search parts

module _ (c : Chart) (σ : Configuration) where
  -- the rows of those of some states that are active
  abbrev rows_of : List ℕ → List (List ℕ)
  rows_of ss = map (λ s. (state_at c s).bounds) (keep (is_active σ) ss)

  -- the ticks left under the bounds of some states are those left under their rows
  under_rows : (ss : List ℕ) (m : ℕ) → ticks_under c σ ss m ≡ rows_left c.clocks (rows_of ss) σ.clocks m
  unfolding ticks_under rows_left keep
  under_rows [] m = refl
  under_rows (s ∷ ss) m = go (is_active σ s) (under_rows ss)
    where
      go : (b : Bool) → ((m : ℕ) → ticks_under c σ ss m ≡ rows_left c.clocks (rows_of ss) σ.clocks m)
          → ticks_under c σ ss (cond b (row_left c.clocks (state_at c s).bounds σ.clocks m) m)
          ≡ rows_left c.clocks (map (λ s. (state_at c s).bounds) (cond b (s ∷ keep (is_active σ) ss) (keep (is_active σ) ss))) σ.clocks m
      go true f = f (row_left c.clocks (state_at c s).bounds σ.clocks m)
      go false f = f m

  -- the configuration at other clocks, which keeps its bounds just where they keep the rows
  abbrev with_clocks : List ℕ → Configuration
  with_clocks cs = record { active = σ.active; variables = σ.variables; clocks = cs }

  kept_rows : (cs : List ℕ) → bounds_kept c (with_clocks cs) ≡ keeps_all (rows_of (states c)) cs
  unfolding bounds_kept is_active
  kept_rows cs =
      sym (all_map (λ r. keeps r cs) (λ s. (state_at c s).bounds) (keep (is_active σ) (states c))
      ∙ all_keep (λ s. keeps (state_at c s).bounds cs) (is_active σ) (states c))

  -- so what is left under all of them, and to the limit, is the longest wait
  pub longest_tells : c.clocks ≤ 8 → TellsLongest (longest c σ) (wait c σ)
  unfolding longest wait tested
  longest_tells few = tells_unless 17 (is_configuration c σ) _ _ (λ h.
      tells_rows c.clocks (rows_of (states c)) σ.clocks (λ cs. bounds_kept c (with_clocks cs)) (λ d. with_clocks (later c.clocks d σ.clocks)) _ few
      kept_rows (configuration_bounds c σ h) (under_rows (states c) (limit_left c.clocks σ.clocks)))

  -- without a clock it is as long as a wait can be
  pub longest_no_clock : is_configuration c σ ≡ true → c.clocks ≡ 0 → longest c σ ≡ done all_ticks
  unfolding longest
  longest_no_clock h z =
      unless_by 17 _ h
      ∙ ap done (under_rows (states c) _ ∙ ap (λ (k : ℕ). rows_left k (rows_of (states c)) σ.clocks (limit_left k σ.clocks)) z ∙ rows_no_clock (rows_of (states c)) σ.clocks)

  -- with one never longer than from the clock to the limit
  pub longest_limited : (m : ℕ) → c.clocks ≤ 8 → longest c σ ≡ done m → (i : ℕ) → i < c.clocks → i < length σ.clocks → get_or σ.clocks i 0 + m ≤ clock_limit
  unfolding longest
  longest_limited m few e i a b =
      let w = unless_at 17 _ _ e in
      omega (
        arith,
        done_injective w.1,
        under_rows (states c) (limit_left c.clocks σ.clocks),
        rows_limited c.clocks (rows_of (states c)) σ.clocks few (configuration_limit c σ w.0) i a b,
      )

-- of every file: one that passes has no more clocks
pub chart_tells : LongestOfCharts
unfolding longest_of wait_of
chart_tells file σ = tells_then (chart_of file) (λ c. longest c σ) (λ c. wait c σ) (λ c e. longest_tells c σ (chart_at_lem file e).1.clocks_few)
