-- The bounds of a state joined with those of its sensors: as many steps down as there are states are enough.
use mathlib.Core.Path.{◌≡◌, ap}
use mathlib.Core.List.{map}
use Prim.Native.Nat.{ℕ, zero, suc, ◌+◌, ◌≤◌, ◌<◌}
use native.Mathlib.Omega.{arith}
use Rattle.lists.proofs.Lists.{map_same}
use Rattle.chart_records.specs.Chart.{Chart, state_at}
use Rattle.chart_records.specs.Tree.{sensors}
use Rattle.chart_records.proofs.Tree.{size, Parents, child_above}
use Rattle.chart_records.proofs.Fixed.{sensors_at}
use Rattle.flattening.specs.Flatten.{join_onto, own_from, own}

module _ (c : Chart) (tree : Parents c) where
  -- from s down there are fewer states than from its parent down
  own_enough : (n m s : ℕ) → s < size c → size c ≤ n + s → size c ≤ m + s → own_from n c s ≡ own_from m c s
  unfolding own_from
  own_enough zero m s h a b = absurd (omega arith)
  own_enough (suc n) zero s h a b = absurd (omega arith)
  own_enough (suc n) (suc m) s h a b = ap (join_onto (state_at c s).bounds) (map_same (own_from n c) (own_from m c) (sensors c s) (λ r k.
      let z = (sensors_at c s k).1 in
      let l = child_above c tree z in
      own_enough n m r z.known (omega arith) (omega arith)))

  -- the bounds of a state joined with what its sensors have
  pub own_step : (s : ℕ) → s < size c → own c s ≡ join_onto (state_at c s).bounds (map (own c) (sensors c s))
  unfolding own own_from
  own_step s h = own_enough (size c) (suc (size c)) s h (omega arith) (omega arith)
