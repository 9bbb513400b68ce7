-- Walks over the states of a chart with tables.
use mathlib.Core.Path.{◌≡◌, sym, ap}
use mathlib.Core.Bool.{Bool, true, false}
use mathlib.Core.List.{[], ◌∷◌}
use Prim.Native.Nat.{ℕ, ◌+◌, ◌≤◌, ◌<◌}
use native.Mathlib.Omega.{arith}
use lib.Dec.{eqb}
use lib.ListN.{get_or, drop}
use Rattle.lists.specs.Lists.{keep}
use Rattle.lists.proofs.Below.{below_next, below_end}
use Rattle.lists.proofs.Lists.{keep_next, keep_left}
use Rattle.chart_records.specs.Chart.{Chart, states, parent_of, sequential}
use Rattle.chart_tree.specs.Table.{Tabled}
use Rattle.chart_tree.specs.declared.table.Tree.{Tree}

module _ {c : Chart} {t : Tree} (T : Tabled c t) where
  -- the states that pass a test, from a state on
  pub walk_yes : (p : ℕ → Bool) (s : ℕ) → s < t.states → p s ≡ true → keep p (drop s (states c)) ≡ s ∷ keep p (drop (s + 1) (states c))
  unfolding states
  walk_yes p s h e = keep_next p (below_next (sym T.count) s h) e

  pub walk_no : (p : ℕ → Bool) (s : ℕ) → s < t.states → p s ≡ false → keep p (drop s (states c)) ≡ keep p (drop (s + 1) (states c))
  unfolding states
  walk_no p s h e = keep_left p (below_next (sym T.count) s h) e

  pub walk_end : (p : ℕ → Bool) (s : ℕ) → t.states ≤ s → keep p (drop s (states c)) ≡ []
  unfolding states keep
  walk_end p s h = ap (keep p) (below_end (sym T.count) s h)

  -- what the tables say of a state
  in_table : (s : ℕ) → s < t.states → s < 48
  in_table s h = omega (arith, T.count, T.few)

  pub sequential_at : (s : ℕ) → s < t.states → eqb (get_or t.kinds s 0) 1 ≡ sequential c s
  unfolding sequential
  sequential_at s h = ap (λ (x : ℕ). eqb x 1) (T.kind s (in_table s h))

  pub parent_of_lem : (s : ℕ) → s < t.states → get_or t.parents s 0 ≡ parent_of c s
  unfolding parent_of
  parent_of_lem s h = T.parent s (in_table s h)
