-- The bounds of sensors, as a walk from the last state up joins them with those of their parents.
use mathlib.Core.Path.{◌≡◌, refl, sym, ap, ap₂, ◌∙◌}
use mathlib.Core.Bool.{Bool, true, false, cond, not, ◌&&◌}
use mathlib.Core.Logic.{◌≢◌}
use mathlib.Core.List.{List, [], ◌∷◌, map}
use Prim.Native.Nat.{ℕ, zero, suc, ◌+◌, ◌-◌, ◌%◌, ◌≤◌, ◌<◌}
use native.Mathlib.Omega.{arith}
use native.Mathlib.Nat.{mod-eq_of_lt}
use native.Mathlib.Decide.{ℕ_discrete}
use borrow.Author.Tests.{eqb-true, eq-eqb, ne_eqb}
use lib.Dec.{eqb}
use lib.ListN.{length, get_or, set, drop}
use lib.Seq.{get_or-set_same, get_or-set_other}
use Rattle.clocks.specs.Clocks.{join}
use Rattle.lists.specs.Lists.{below, keep}
use Rattle.lists.proofs.Bools.{and_l, and_r, fails, clash}
use Rattle.lists.proofs.Below.{below_next, below_end}
use Rattle.lists.proofs.Lists.{keep_keep, keep_none, keep_next, keep_left}
use Rattle.chart_records.specs.Chart.{Chart, states, parent_of, parallel}
use Rattle.chart_records.specs.Tree.{is_child, children, fixed, sensors}
use Rattle.chart_tree.specs.Table.{Column, Rooted}
use Rattle.chart_records.proofs.Tree.{size, Parents, parents_at}
use Rattle.flattening.specs.Flatten.{join_onto, own}
use Rattle.flattening.proofs.Own.{own_step}
use Rattle.flatten_places.specs.Tables.{FixedKinds}
use Rattle.flatten_places.proofs.Fixing.{fixed_test}
use Rattle.flatten_tables.specs.Bounding.{RowsOf, bounds_at}

-- r is one of the sensors of s
abbrev is_sensor : Chart → ℕ → ℕ → Bool
is_sensor c s r = parallel c s && (is_child c s r && fixed c r)

sensors_kept : (c : Chart) (s : ℕ) → sensors c s ≡ keep (is_sensor c s) (states c)
unfolding sensors children
sensors_kept c s = go (parallel c s)
  where
    go : (b : Bool) → cond b (keep (fixed c) (keep (is_child c s) (states c))) [] ≡ keep (λ r. b && (is_child c s r && fixed c r)) (states c)
    go true = keep_keep (is_child c s) (fixed c) (states c)
    go false = sym (keep_none (λ r. false) (states c) (λ r m. refl))

-- the bounds of s joined with what its sensors from i on have
unfoldable pub own_since : Chart → ℕ → ℕ → List ℕ
own_since c i s = join_onto (bounds_at c s) (map (own c) (keep (is_sensor c s) (drop i (states c))))

pub own_none : (c : Chart) (rows : List (List ℕ)) (i : ℕ) → i ≡ size c → RowsOf (bounds_at c) c rows → RowsOf (own_since c i) c rows
unfolding own_since states keep join_onto
own_none c rows i e R s h = rw (below_end {m = size c} {k = size c} refl i (omega arith)) (R s h)

module _ (c : Chart) (tree : Parents c) where
  -- the sensors of s have larger numbers
  sensor_larger : (s r : ℕ) → r < size c → r ≤ s → is_sensor c s r ≡ false
  sensor_larger s r h l = fails (is_sensor c s r) (λ z.
      let k = and_l (is_child c s r) _ (and_r (parallel c s) _ z) in
      let p = eqb-true (parent_of c r) s (and_r (not (eqb r 0)) _ k) in
      elim (ℕ_discrete r 0) [
        | yes e ↦ clash (and_l (not (eqb r 0)) _ k) (rw (eq-eqb r 0 e))
        | no d ↦ omega (arith, tree.smaller r h d)
      ])

  sensors_since : (s i : ℕ) → s < size c → i ≤ suc s → keep (is_sensor c s) (drop i (states c)) ≡ keep (is_sensor c s) (states c)
  unfolding states
  sensors_since s zero h l = refl
  sensors_since s (suc i) h l =
      ap (λ (j : ℕ). keep (is_sensor c s) (drop j (below (size c)))) (let z : suc i ≡ i + 1 = omega arith in z)
      ∙ sym (keep_left (is_sensor c s) (below_next {m = size c} refl i (omega arith)) (sensor_larger s i (omega arith) (omega arith)))
      ∙ sensors_since s i h (omega arith)

  -- from s on, all of them
  own_since_lem : (s i : ℕ) → s < size c → i ≤ suc s → own_since c i s ≡ own c s
  unfolding own_since
  own_since_lem s i h l = ap (λ (rs : List ℕ). join_onto (bounds_at c s) (map (own c) rs)) (sensors_since s i h l ∙ sym (sensors_kept c s)) ∙ sym (own_step c tree s h)

  pub own_all : (rows : List (List ℕ)) (i : ℕ) → i ≤ 1 → RowsOf (own_since c i) c rows → RowsOf (own c) c rows
  own_all rows i h R s k = R s k ∙ own_since_lem s i k (omega arith)

  -- one state more
  module _ (i : ℕ) (h : 1 < i) (last : i ≤ size c) where
    next : drop (i - 1) (below (size c)) ≡ (i - 1) ∷ drop i (below (size c))
    next = below_next {m = size c} refl (i - 1) (omega arith) ∙ ap (λ (k : ℕ). (i - 1) ∷ drop k (below (size c))) (let z : i - 1 + 1 ≡ i = omega arith in z)

    own_sensor : (s : ℕ) → is_sensor c s (i - 1) ≡ true → own_since c (i - 1) s ≡ join (own c (i - 1)) (own_since c i s)
    unfolding own_since states join_onto
    own_sensor s z = ap (λ (rs : List ℕ). join_onto (bounds_at c s) (map (own c) rs)) (keep_next (is_sensor c s) next z)

    own_other : (s : ℕ) → is_sensor c s (i - 1) ≡ false → own_since c (i - 1) s ≡ own_since c i s
    unfolding own_since states
    own_other s z = ap (λ (rs : List ℕ). join_onto (bounds_at c s) (map (own c) rs)) (keep_left (is_sensor c s) next z)

    -- only its parent's row changes
    not_parent : (s : ℕ) → s ≢ parent_of c (i - 1) → is_sensor c s (i - 1) ≡ false
    not_parent s d = fails (is_sensor c s (i - 1)) (λ z. d (sym (eqb-true (parent_of c (i - 1)) s (and_r (not (eqb (i - 1) 0)) _ (and_l (is_child c s (i - 1)) _ (and_r (parallel c s) _ z))))))

    at_parent : is_sensor c (parent_of c (i - 1)) (i - 1) ≡ (fixed c (i - 1) && parallel c (parent_of c (i - 1)))
    at_parent = rw (ne_eqb (i - 1) 0 (λ z. omega arith), eq-eqb (parent_of c (i - 1)) (parent_of c (i - 1)) refl) (go (parallel c (parent_of c (i - 1))) (fixed c (i - 1)))
      where
        go : (a b : Bool) → (a && b) ≡ (b && a)
        go true true = refl
        go true false = refl
        go false true = refl
        go false false = refl

    module _ (rows : List (List ℕ)) (R : RowsOf (own_since c i) c rows) (long : length rows ≡ 48) (few : size c ≤ 48) {p : ℕ} (parent : p ≡ parent_of c (i - 1)) where
      own_joined : (fixed c (i - 1) && parallel c p) ≡ true → {row : List ℕ} → row ≡ join (get_or rows (i - 1) []) (get_or rows p []) → RowsOf (own_since c (i - 1)) c (set rows p row)
      own_joined z {row} e s k =
          let l = tree.smaller (i - 1) (omega arith) (λ y. omega arith) in
          elim (ℕ_discrete s p) [
            | yes q ↦ ap (λ (j : ℕ). get_or (set rows p row) j []) q ∙ get_or-set_same rows p row [] (omega arith) ∙ e
                ∙ ap₂ join (R (i - 1) (omega arith) ∙ own_since_lem (i - 1) i (omega arith) (omega arith)) (ap (λ (j : ℕ). get_or rows j []) (sym q) ∙ R s k)
                ∙ sym (own_sensor s (ap (λ (j : ℕ). is_sensor c j (i - 1)) (q ∙ parent) ∙ at_parent ∙ ap (λ (j : ℕ). fixed c (i - 1) && parallel c j) (sym parent) ∙ z))
            | no q ↦ get_or-set_other rows p s row [] q ∙ R s k ∙ sym (own_other s (not_parent s (λ y. q (y ∙ sym parent))))
          ]

      own_left : (fixed c (i - 1) && parallel c p) ≡ false → RowsOf (own_since c (i - 1)) c rows
      own_left z s k = R s k ∙ sym (own_other s (elim (ℕ_discrete s p) [
        | yes q ↦ ap (λ (j : ℕ). is_sensor c j (i - 1)) (q ∙ parent) ∙ at_parent ∙ ap (λ (j : ℕ). fixed c (i - 1) && parallel c j) (sym parent) ∙ z
        | no q ↦ not_parent s (λ y. q (y ∙ sym parent))
      ]))

-- as the code does it
module _ (c : Chart) (above kinds inner : List ℕ) (R : Rooted c above) (K : Column (λ x. x.kind) c kinds) (F : FixedKinds c inner) (count i : ℕ) (N : count ≡ size c) (h : 1 < i) (last : i ≤ count)
    (rows : List (List ℕ)) (S : RowsOf (own_since c i) c rows) (long : length rows ≡ 48) where
  tree : Parents c
  tree = parents_at c R.rule

  abbrev up : ℕ
  up = get_or above (i - 1) 0 % 48

  parent : up ≡ parent_of c (i - 1)
  unfolding parent_of
  parent = ap (λ (y : ℕ). y % 48) (R.parent (i - 1) (omega (arith, R.few))) ∙ mod-eq_of_lt (omega (arith, tree.smaller (i - 1) (omega arith) (λ z. omega arith), R.few))

  test : (eqb (get_or inner (i - 1) 0) 0 && eqb (get_or kinds up 0) 2) ≡ (fixed c (i - 1) && parallel c up)
  unfolding parallel
  test = ap₂ ◌&&◌ (fixed_test c inner F tree (i - 1) (omega (arith, R.few))) (ap (λ (y : ℕ). eqb y 2) (K up (omega arith)))

  pub sensed : (eqb (get_or inner (i - 1) 0) 0 && eqb (get_or kinds up 0) 2) ≡ true → {row : List ℕ} → row ≡ join (get_or rows (i - 1) []) (get_or rows up []) → RowsOf (own_since c (i - 1)) c (set rows up row)
  sensed z e = own_joined c tree i h (omega arith) rows S long R.few parent (sym test ∙ z) e

  pub unsensed : (eqb (get_or inner (i - 1) 0) 0 && eqb (get_or kinds up 0) 2) ≡ false → RowsOf (own_since c (i - 1)) c rows
  unsensed z = own_left c tree i h (omega arith) rows S long R.few parent (sym test ∙ z)
