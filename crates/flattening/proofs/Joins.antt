-- What holds of each state's bounds, and is kept by joining rows, holds of the bounds of each place.
use mathlib.Core.Path.{◌≡◌, refl, sym, ap, ◌∙◌, subst}
use mathlib.Core.Bool.{Bool, true, false, cond}
use mathlib.Core.List.Memᴰ.{head as here}
use mathlib.Core.List.Memᴰ.{tail as there}
use mathlib.Core.List.{List, [], ◌∷◌, map, Memᴰ as Mem}
use Prim.Native.Nat.{ℕ, zero, suc, ◌<◌}
use native.Mathlib.Omega.{arith}
use native.Mathlib.Decide.{dec_lt}
use lib.Dec.{eqb}
use Rattle.lists.specs.Lists.{keep}
use Rattle.clocks.specs.Clocks.{free, join}
use Rattle.lists.proofs.Bools.{clash}
use Rattle.lists.proofs.Lists.{keep_at, map_at}
use Rattle.chart_records.specs.Chart.{Chart, state_at, transition_at, states, parent_of, parallel}
use Rattle.chart_records.specs.Tree.{sensors, entered}
use Rattle.chart_records.proofs.Tree.{size, states_at, basic_not_parallel, unknown_parent, unknown_basic}
use Rattle.chart_records.proofs.Fixed.{sensors_at}
use Rattle.chart_records.proofs.Ranges.{Ranges}
use Rattle.chart_rules.proofs.TransitionRules.{transition_mem}
use Rattle.flattening.specs.Flatten.{Pair, Place, idle, child, pre, post, has_entry, join_onto, join_all, own_from, own, carried_from, joined, pre_bounds, arrival, arrival_bounds, bounds_of}
use Rattle.flattening.proofs.Numbers.{Stands}

-- a child of a parallel state is a state of the chart
child_known : (c : Chart) → Ranges c → (s : ℕ) → parallel c (parent_of c s) ≡ true → s < size c
child_known c ranges s z = elim (dec_lt s (size c)) [
  | yes h ↦ h
  | no h ↦ clash (ap (parallel c) (sym (unknown_parent c s (omega arith))) ∙ z) (basic_not_parallel c 255 (unknown_basic c 255 (omega (arith, ranges.states_few))))
]

module _ (P : List ℕ → Type 0) (none : P free) (both : (a b : List ℕ) → P a → P b → P (join a b)) where
  pub join_onto_has : (b : List ℕ) (rows : List (List ℕ)) → P b → ((r : List ℕ) → Mem r rows → P r) → P (join_onto b rows)
  unfolding join_onto
  join_onto_has b [] k f = k
  join_onto_has b (r ∷ rs) k f = both r (join_onto b rs) (f r (here refl)) (join_onto_has b rs k (λ x m. f x (there m)))

  pub join_all_has : (rows : List (List ℕ)) → ((r : List ℕ) → Mem r rows → P r) → P (join_all rows)
  unfolding join_all
  join_all_has rows f = join_onto_has free rows none f

  module _ (c : Chart) (ranges : Ranges c) (each : (s : ℕ) → s < size c → P (state_at c s).bounds) where
    own_from_has : (n s : ℕ) → s < size c → P (own_from n c s)
    unfolding own_from
    own_from_has zero s h = each s h
    own_from_has (suc n) s h = join_onto_has _ _ (each s h) (λ r m. let k = map_at (own_from n c) (sensors c s) m in subst P (sym k.2) (own_from_has n k.0 (sensors_at c s k.1).1.known))

    pub own_has : (s : ℕ) → s < size c → P (own c s)
    unfolding own
    own_has = own_from_has (size c)

    pub carried_has : (n s : ℕ) → P (carried_from n c s)
    unfolding carried_from
    carried_has zero s = none
    carried_has (suc n) s = go (eqb s 0) (parallel c (parent_of c s)) refl (carried_has n (parent_of c s))
      where
        go : (b z : Bool) → parallel c (parent_of c s) ≡ z → P (carried_from n c (parent_of c s)) → P (cond b (own c 0) (cond z (join (own c s) (carried_from n c (parent_of c s))) free))
        go true z e k = own_has 0 (omega (arith, ranges.states_some))
        go false true e k = both (own c s) _ (own_has s (child_known c ranges s e)) k
        go false false e k = none

    joined_has : (s : ℕ) → s < size c → P (joined c s)
    unfolding joined
    joined_has s h = both (own c s) _ (own_has s h) (carried_has (suc s) (parent_of c s))

    pub entered_have : (p : Pair) (r : List ℕ) → Mem r (map (joined c) (keep (entered c p.state p.mark) (states c))) → P r
    entered_have p r m = let k = map_at (joined c) _ m in subst P (sym k.2) (joined_has k.0 (states_at c (keep_at (entered c p.state p.mark) (states c) k.1).0))

    pre_has : (p : Pair) → P (pre_bounds c p)
    unfolding pre_bounds
    pre_has p = join_all_has _ (entered_have p)

    arrival_has : (t : ℕ) → (transition_at c t).destination < size c → P (arrival_bounds c (arrival c t))
    unfolding arrival arrival_bounds
    arrival_has t h = go (has_entry c t)
      where
        p : Pair
        p = record { state = (transition_at c t).destination; mark = (transition_at c t).entry }

        go : (b : Bool) → P (arrival_bounds c (cond b (pre p) (child (transition_at c t).destination)))
        go true = pre_has p
        go false = joined_has _ h

    pub bounds_have : (p : Place) → Stands c p → P (bounds_of c p)
    unfolding bounds_of
    bounds_have (idle q) k = none
    bounds_have (child s) k = joined_has s k.known
    bounds_have (pre p) k = pre_has p
    bounds_have (post t) k = arrival_has t (ranges.of_transition _ (transition_mem c t k.0)).destination_known
