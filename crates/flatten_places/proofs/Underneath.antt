-- Laws of what a table has of the states at or below each, as a walk from the last state up gathers it.
use mathlib.Core.Path.{◌≡◌, refl, sym, ap, ◌∙◌, subst}
use mathlib.Core.Bool.{Bool, true, ◌&&◌, ◌||◌, and-false}
use mathlib.Core.Logic.{◌⊎◌, inl, inr, ⊎_elim, ◌≢◌}
use mathlib.Core.List.{List}
use Prim.Native.Nat.{ℕ, ◌-◌, ◌%◌, ◌≤◌, ◌<◌}
use native.Mathlib.Omega.{arith}
use native.Mathlib.Nat.{mod-eq_of_lt}
use native.Mathlib.Decide.{ℕ_discrete}
use lib.Bits as Words
use lib.ListN.{length, get_or, set}
use lib.Seq.{get_or-set_same, get_or-set_other}
use Rattle.lists.specs.Lists.{has}
use Rattle.lists.proofs.Bools.{clash, and_l, and_r, both, or_l, or_r, or_cases, same, decided}
use Rattle.lists.proofs.Lists.{any_at, any_by, any_same}
use Rattle.lists.proofs.Bits.{has_or, has_zero}
use Rattle.chart_records.specs.Chart.{Chart, state_at, parent_of, states, basic}
use Rattle.chart_records.specs.Tree.{under}
use Rattle.chart_tree.specs.Table.{Tabled, Rooted}
use Rattle.chart_tree.specs.declared.table.Tree.{Tree}
use Rattle.chart_records.proofs.Tree.{size, states_at, states_by, Child, own_child, Parents, parents_at, under_refl, under_transitive, child_under, child_above, child_towards}
use Rattle.chart_tree.proofs.Tables.{parent_at}
use Rattle.flattening.specs.Flatten.{marks_below}
use Rattle.flatten_places.specs.Tables.{Chartered}
use Rattle.flatten_places.specs.Walking.{Gathered, MarkedBelow}
use Rattle.flatten_places.proofs.Chartered.{passed_of}

-- some state at or below x has the bit e in the table: x itself, or one below a child from i on
pub record Seen (c : Chart) (marks : List ℕ) (i x e : ℕ) : Type 0 where
  pub state : ℕ
  pub known : state < size c
  pub marked : has (get_or marks state 0) e ≡ true
  pub below : under c x state ≡ true
  pub way : (state ≡ x) ⊎ ((r : ℕ) × Child c x r × (under c r state ≡ true) × (i ≤ r))

-- what is gathered has just these
pub record SeenFrom (c : Chart) (marks l : List ℕ) (i : ℕ) : Type 0 where
  pub only : (x e : ℕ) → x < size c → has (get_or l x 0) e ≡ true → Seen c marks i x e
  pub each : (x e : ℕ) → x < size c → Seen c marks i x e → has (get_or l x 0) e ≡ true

module _ (c : Chart) (parents marks : List ℕ) (count : ℕ) (R : Rooted c parents) (N : count ≡ size c) where
  tree : Parents c
  tree = parents_at c R.rule

  pub seen_none : SeenFrom c marks marks count
  seen_none = record {
    only = λ x e h k. record { state = x; known = h; marked = k; below = under_refl c x; way = inl refl };
    each = λ x e h s. ⊎_elim (λ z. ap (λ (y : ℕ). has (get_or marks y 0) e) (sym z) ∙ s.marked) (λ w. absurd (omega (arith, w.1.known, w.3, N))) s.way;
  }

  -- one state more adds its own to its parent's
  module _ (l : List ℕ) (i : ℕ) (S : SeenFrom c marks l i) (long : length l ≡ 48) (h : 1 < i) (last : i ≤ count) where
    r : ℕ
    r = i - 1

    known : r < size c
    unfolding r
    known = omega (arith, N)

    below_root : r ≢ 0
    unfolding r
    below_root z = omega arith

    a : ℕ
    a = parent_of c r

    is_child_lem : Child c a r
    unfolding a
    is_child_lem = own_child c known below_root

    less : a < r
    unfolding a
    less = tree.smaller r known below_root

    module _ (l' : List ℕ) (at_parent : (e : ℕ) → has (get_or l' a 0) e ≡ (has (get_or l a 0) e || has (get_or l r 0) e)) (elsewhere : (x : ℕ) → x ≢ a → get_or l' x 0 ≡ get_or l x 0) where
      more : {x e : ℕ} → Seen c marks i x e → Seen c marks r x e
      unfolding r
      more s = record { state = s.state; known = s.known; marked = s.marked; below = s.below; way = ⊎_elim inl (λ w. inr (w.0, w.1, w.2, omega (arith, w.3))) s.way }

      lifted : {e : ℕ} → Seen c marks i r e → Seen c marks r a e
      unfolding r
      lifted s = record { state = s.state; known = s.known; marked = s.marked; below = under_transitive c tree a r s.state s.known (child_under c tree is_child_lem) s.below; way = inr (r, is_child_lem, s.below, omega arith) }

      -- of a child that is r itself
      lowered : {e : ℕ} (s : Seen c marks r a e) → under c r s.state ≡ true → Seen c marks i r e
      unfolding r
      lowered s u = record {
        state = s.state;
        known = s.known;
        marked = s.marked;
        below = u;
        way = elim (ℕ_discrete s.state r) [
          | yes z ↦ inl z
          | no z ↦ let w = child_towards c tree r s.state s.known u z in inr (w.0, w.1, w.2, omega (arith, child_above c tree w.1))
        ];
      }

      fewer : {x e : ℕ} → (s : Seen c marks r x e) → (x ≢ a) ⊎ (((w : ℕ) → w ≡ r → under c w s.state ≡ true → ⊥)) → Seen c marks i x e
      unfolding r a
      fewer {x} s d = record {
        state = s.state;
        known = s.known;
        marked = s.marked;
        below = s.below;
        way = ⊎_elim inl go s.way;
      }
        where
          go : (y : ℕ) × Child c x y × (under c y s.state ≡ true) × (r ≤ y) → (s.state ≡ x) ⊎ ((y : ℕ) × Child c x y × (under c y s.state ≡ true) × (i ≤ y))
          go w = elim (ℕ_discrete w.0 r) [
            | yes z ↦ absurd (⊎_elim (λ n. n (sym w.1.parent_is ∙ ap (parent_of c) z)) (λ n. n w.0 z w.2) d)
            | no z ↦ inr (w.0, w.1, w.2, omega (arith, w.3))
          ]

      split : {e : ℕ} → Seen c marks r a e → (Seen c marks i a e) ⊎ (Seen c marks i r e)
      split s = ⊎_elim (λ u. inr (lowered s u)) (λ u. inl (fewer s (inr (λ w z v. clash (ap (λ (y : ℕ). under c y s.state) (sym z) ∙ v) u)))) (decided (under c r s.state))

      seen_step : SeenFrom c marks l' r
      seen_step = record {
        only = λ x e k m. elim (ℕ_discrete x a) [
          | yes z ↦ subst (λ (y : ℕ). Seen c marks r y e) (sym z) (⊎_elim (λ o. more (S.only a e (omega (arith, less, known)) o)) (λ o. lifted (S.only r e known o)) (or_cases (has (get_or l a 0) e) (has (get_or l r 0) e) (sym (at_parent e) ∙ ap (λ (y : ℕ). has (get_or l' y 0) e) (sym z) ∙ m)))
          | no z ↦ more (S.only x e k (ap (λ (y : ℕ). has y e) (sym (elsewhere x z)) ∙ m))
        ];
        each = λ x e k s. elim (ℕ_discrete x a) [
          | yes z ↦ ap (λ (y : ℕ). has (get_or l' y 0) e) z ∙ at_parent e ∙ ⊎_elim (λ o. or_l _ (S.each a e (omega (arith, less, known)) o)) (λ o. or_r (has (get_or l a 0) e) (S.each r e known o)) (split (subst (λ (y : ℕ). Seen c marks r y e) z s))
          | no z ↦ ap (λ (y : ℕ). has y e) (elsewhere x z) ∙ S.each x e k (fewer s (inl z))
        ];
      }

    -- as the code does it
    pub seen_more : {up : ℕ} → up ≡ get_or parents (i - 1) 0 % 48 → SeenFrom c marks (set l up (Words.bit_or (get_or l up 0) (get_or l (i - 1) 0))) (i - 1)
    unfolding r a
    seen_more {up} e =
        let parent : up ≡ parent_of c (i - 1) = e ∙ ap (λ (y : ℕ). y % 48) (parent_at c parents R (i - 1) (omega (arith, known, R.few))) ∙ mod-eq_of_lt (omega (arith, less, known, R.few)) in
        let in_list : up < length l = omega (arith, parent, less, known, R.few) in
        seen_step _
        (λ x. ap (λ (y : ℕ). has (get_or (set l up (Words.bit_or (get_or l up 0) (get_or l (i - 1) 0))) y 0) x) (sym parent)
        ∙ ap (λ (y : ℕ). has y x) (get_or-set_same l up _ 0 in_list)
        ∙ has_or (get_or l up 0) (get_or l (i - 1) 0) x
        ∙ ap (λ (y : ℕ). has (get_or l y 0) x || has (get_or l (i - 1) 0) x) parent)
        (λ x d. get_or-set_other l up x _ 0 (λ z. d (z ∙ parent)))

  -- in the end all
  pub seen_all : (l : List ℕ) (i : ℕ) → SeenFrom c marks l i → i ≤ 1 → Gathered c marks l
  seen_all l i S h s e k = same _ _
      (λ m. let w = S.only s e k m in any_by _ (states_by c w.known) (both w.below w.marked))
      (λ m.
      let w = any_at _ (states c) m in
      let u = and_l (under c s w.0) _ w.2 in
      let y = states_at c w.1 in
      S.each s e k (record {
        state = w.0;
        known = y;
        marked = and_r (under c s w.0) _ w.2;
        below = u;
        way = elim (ℕ_discrete w.0 s) [
          | yes q ↦ inl q
          | no q ↦ let v = child_towards c tree s w.0 y u q in inr (v.0, v.1, v.2, omega (arith, child_above c tree v.1))
        ];
      }))

-- the exits that are gathered: only basic states are marked with any
pub exits_below : {c : Chart} {t : Tree} → Chartered c → Tabled c t → (l : List ℕ) → Gathered c t.exits l → MarkedBelow c l
unfolding marks_below
exits_below {c} {t} K T l G s e h = G s e h ∙ any_same _ _ (states c) (λ b m. let k = states_at c m in
    ap (λ (x : ℕ). under c s b && has x e) (T.exits b (omega (arith, T.few))) ∙ ⊎_elim
    (λ z. sym (ap (λ (x : Bool). x && (under c s b && has (state_at c b).exits e)) z))
    (λ z. ap (λ (x : Bool). under c s b && x) (ap (λ (y : ℕ). has y e) ((passed_of K).exit_marks_lem b k z) ∙ has_zero e) ∙ and-false (under c s b) ∙ sym (ap (λ (x : Bool). x && (under c s b && has (state_at c b).exits e)) z))
    (decided (basic c b)))
