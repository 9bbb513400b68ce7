-- Laws of the pass from the last state to the first that gives the sets of completion.
use mathlib.Core.Path.{◌≡◌, refl, sym, ap, ap₂, ◌∙◌, subst}
use mathlib.Core.Bool.{Bool, true, false, cond, not, ◌&&◌, and-true, and-false}
use mathlib.Core.List.{List}
use Prim.Native.Nat.{ℕ, ◌+◌, ◌≤◌, ◌<◌}
use native.Mathlib.Omega.{arith}
use native.Mathlib.Decide.{ℕ_discrete}
use borrow.Author.Tests.{eqb-true, eqb-false, eq-eqb, ne_eqb, le-leb, lt-leb, leb-true, not-true}
use lib.Bits as Words
use lib.Dec.{leb, eqb}
use lib.ListN.{length, get_or, set, length-set}
use lib.Seq.{get_or-set_same, get_or-set_other}
use Rattle.lists.specs.Lists.{has, all, implies}
use Rattle.lists.proofs.Bools.{and_l, and_r, both, not_yes, implies_at, implies_by, same, cond_yes, cond_no}
use Rattle.lists.proofs.Lists.{all_at, all_by, all_same, keep_same}
use Rattle.lists.proofs.Bits.{has_and, has_zero, has_full}
use Rattle.chart_records.specs.Chart.{Chart, states, parent_of, basic}
use Rattle.chart_records.specs.Tree.{is_child, children}
use Rattle.chart_tree.specs.Table.{Column}
use Rattle.chart_moves.specs.Machine.{is_active, completed}
use Rattle.chart_moves.specs.Active.{Shown}
use Rattle.chart_moves.specs.Completion.{complete_set, CompleteIn}
use Rattle.chart_moves.specs.declared.configuration.Configuration.{Configuration}
use Rattle.chart_records.proofs.Tree.{size, states_at, children_at, children_by, Parents, parents_at, child_above}
use Rattle.chart_moves.proofs.Active.{IsTree}
use Rattle.chart_moves.proofs.Activities.{active_is, above_is, kind_is}
use Rattle.chart_moves.proofs.CompleteSets.{completed_composite, completed_basic, completed_idle}

-- the children of a state from i on are all completed
unfoldable pub completed_from : Chart → Configuration → ℕ → ℕ → ℕ → Bool
completed_from c σ i e x = all (λ r. implies (leb i r) (completed c σ r e)) (children c x)

-- the states that a set can have: active and composite
unfoldable pub counted : Chart → Configuration → ℕ → Bool
counted c σ x = is_active σ x && not (basic c x)

-- a pass that has come down to the state i: the row of a state has the exits by which its children from i on are completed; of the
-- states from i on, those that a set can have alone have any
abbrev pub PassedTo : Chart → Configuration → ℕ → List ℕ → Type 0
PassedTo c σ i rows = (x e : ℕ) → x < size c → e < 8 → has (get_or rows x 0) e ≡ (implies (leb i x) (counted c σ x) && completed_from c σ i e x)

module _ (c : Chart) (tree : Parents c) (σ : Configuration) where
  -- all children, and none
  completed_all : (i e x : ℕ) → i ≤ x + 1 → completed_from c σ i e x ≡ all (λ r. completed c σ r e) (children c x)
  unfolding completed_from implies
  completed_all i e x h = all_same _ _ (children c x) (λ r n. ap (λ (b : Bool). implies b (completed c σ r e)) (le-leb i r (omega (arith, child_above c tree (children_at c x n)))))

  completed_none : (i e x : ℕ) → size c ≤ i → completed_from c σ i e x ≡ true
  unfolding completed_from
  completed_none i e x h = all_by _ _ (λ r n. implies_by (leb i r) _ (λ z. absurd (omega (arith, leb-true i r z, (children_at c x n).known))))

  -- before the first state every row has all exits
  pub passed_none : (rows : List ℕ) (i : ℕ) → size c ≤ i → ((x : ℕ) → x < size c → get_or rows x 0 ≡ 255) → PassedTo c σ i rows
  passed_none rows i h full x e k l =
      ap (λ (y : ℕ). has y e) (full x k) ∙ has_full 8 e l
      ∙ sym (both (implies_by (leb i x) _ (λ z. absurd (omega (arith, leb-true i x z)))) (completed_none i e x h))

  -- in the end the sets
  pub passed_all : (rows : List ℕ) (i : ℕ) → PassedTo c σ i rows → i ≤ 0 → CompleteIn c σ rows
  unfolding complete_set implies counted
  passed_all rows i P h e l = keep_same _ _ (states c) (λ x n.
      P x e (states_at c n) l ∙ ap (λ (b : Bool). implies b (counted c σ x) && completed_from c σ i e x) (le-leb i x (omega arith)) ∙ ends x (states_at c n) (is_active σ x) (basic c x) refl)
    where
      ends : (x : ℕ) → x < size c → (a b : Bool) → basic c x ≡ b → ((a && not b) && completed_from c σ i e x) ≡ (a && (not b && completed c σ x e))
      ends x k false b q = refl
      ends x k true true q = refl
      ends x k true false q = completed_all i e x (omega arith) ∙ sym (completed_composite c tree σ e x k q)

  -- one state more
  module _ (rows : List ℕ) (i s : ℕ) (P : PassedTo c σ i rows) (next : i ≡ s + 1) (known : s < size c) where
    -- it counts for its parent alone
    from_here : (x e : ℕ) → (completed_from c σ i e x && implies (is_child c x s) (completed c σ s e)) ≡ completed_from c σ s e x
    unfolding completed_from
    from_here x e = same _ _ down up
      where
        down : (all (λ r. implies (leb i r) (completed c σ r e)) (children c x) && implies (is_child c x s) (completed c σ s e)) ≡ true → all (λ r. implies (leb s r) (completed c σ r e)) (children c x) ≡ true
        down h = all_by _ _ (λ r n. implies_by (leb s r) _ (λ z. elim (ℕ_discrete r s) [
          | yes q ↦ subst (λ (y : ℕ). completed c σ y e ≡ true) (sym q) (implies_at (is_child c x s) _ (and_r (all _ (children c x)) _ h)
              (both (not_yes (ne_eqb s 0 (λ w. (children_at c x n).below_root (q ∙ w)))) (eq-eqb (parent_of c s) x (subst (λ (y : ℕ). parent_of c y ≡ x) q (children_at c x n).parent_is))))
          | no q ↦ implies_at (leb i r) _ (all_at _ _ (and_l (all _ (children c x)) _ h) n) (le-leb i r (omega (arith, leb-true s r z)))
        ]))

        up : all (λ r. implies (leb s r) (completed c σ r e)) (children c x) ≡ true → (all (λ r. implies (leb i r) (completed c σ r e)) (children c x) && implies (is_child c x s) (completed c σ s e)) ≡ true
        up h = both
            (all_by _ _ (λ r n. implies_by (leb i r) _ (λ z. implies_at (leb s r) _ (all_at _ _ h n) (le-leb s r (omega (arith, leb-true i r z))))))
            (implies_by (is_child c x s) _ (λ z. implies_at (leb s s) _ (all_at _ _ h (children_by c (record {
              known = known;
              below_root = eqb-false s 0 (not-true _ (and_l (not (eqb s 0)) _ z));
              parent_is = eqb-true (parent_of c s) x (and_r (not (eqb s 0)) _ z);
            }))) (le-leb s s (omega arith))))

    -- and its turn changes its own row alone
    turn_here : (x : ℕ) → (implies (leb i x) (counted c σ x) && implies (eqb x s) (counted c σ x)) ≡ implies (leb s x) (counted c σ x)
    turn_here x = same _ _ down up
      where
        down : (implies (leb i x) (counted c σ x) && implies (eqb x s) (counted c σ x)) ≡ true → implies (leb s x) (counted c σ x) ≡ true
        down h = implies_by (leb s x) _ (λ z. elim (ℕ_discrete x s) [
          | yes q ↦ implies_at (eqb x s) _ (and_r (implies (leb i x) _) _ h) (eq-eqb x s q)
          | no q ↦ implies_at (leb i x) _ (and_l (implies (leb i x) _) _ h) (le-leb i x (omega (arith, leb-true s x z)))
        ])

        up : implies (leb s x) (counted c σ x) ≡ true → (implies (leb i x) (counted c σ x) && implies (eqb x s) (counted c σ x)) ≡ true
        up h = both
            (implies_by (leb i x) _ (λ z. implies_at (leb s x) _ h (le-leb s x (omega (arith, leb-true i x z)))))
            (implies_by (eqb x s) _ (λ z. implies_at (leb s x) _ h (le-leb s x (omega (arith, eqb-true x s z)))))

    passed_more : (l : List ℕ) → ((x e : ℕ) → x < size c → e < 8 → has (get_or l x 0) e ≡ ((has (get_or rows x 0) e && implies (eqb x s) (counted c σ x)) && implies (is_child c x s) (completed c σ s e))) → PassedTo c σ s l
    passed_more l f x e k n =
        f x e k n ∙ ap (λ (b : Bool). (b && implies (eqb x s) (counted c σ x)) && implies (is_child c x s) (completed c σ s e)) (P x e k n)
        ∙ go (implies (leb i x) (counted c σ x)) (completed_from c σ i e x) _ _ ∙ ap₂ ◌&&◌ (turn_here x) (from_here x e)
      where
        go : (a b p q : Bool) → (((a && b) && p) && q) ≡ ((a && p) && (b && q))
        go false b p q = refl
        go true b true q = ap (λ (z : Bool). z && q) (and-true b)
        go true b false q = ap (λ (z : Bool). z && q) (and-false b)

-- one state more, by the tables
module _ (c : Chart) (σ : Configuration) (T : IsTree c (is_active σ)) (above kinds : List ℕ) (active : List Bool) (S : Shown c σ above kinds active)
    (rows : List ℕ) (i s : ℕ) (P : PassedTo c σ i rows) (next : i ≡ s + 1) (known : s < size c) (room : s < length rows)
    {own : ℕ} (turned : own ≡ cond (get_or active s false && not (eqb (get_or kinds s 0) 0)) (get_or rows s 0) 0) where
  tree : Parents c
  tree = parents_at c S.rooted.rule

  basic_is : eqb (get_or kinds s 0) 0 ≡ basic c s
  unfolding basic
  basic_is = ap (λ (k : ℕ). eqb k 0) (sym (kind_is c σ above kinds active S s known refl))

  -- its own row
  turn : (x e : ℕ) → has (get_or (set rows s own) x 0) e ≡ (has (get_or rows x 0) e && implies (eqb x s) (counted c σ x))
  unfolding implies counted
  turn x e = elim (ℕ_discrete x s) [
    | yes q ↦ subst (λ (y : ℕ). has (get_or (set rows s own) y 0) e ≡ (has (get_or rows y 0) e && implies (eqb y s) (counted c σ y))) (sym q)
        (ap (λ (y : ℕ). has y e) (get_or-set_same rows s own 0 room ∙ turned ∙ ap₂ (λ (a b : Bool). cond (a && not b) (get_or rows s 0) 0) (sym (active_is c σ above kinds active S s refl)) basic_is)
        ∙ go (counted c σ s) ∙ sym (ap (λ (b : Bool). has (get_or rows s 0) e && implies b (counted c σ s)) (eq-eqb s s refl)))
    | no q ↦ ap (λ (y : ℕ). has y e) (get_or-set_other rows s x own 0 q)
        ∙ sym (ap (λ (b : Bool). has (get_or rows x 0) e && implies b (counted c σ x)) (ne_eqb x s q) ∙ and-true (has (get_or rows x 0) e))
  ]
    where
      go : (b : Bool) → has (cond b (get_or rows s 0) 0) e ≡ (has (get_or rows s 0) e && b)
      go true = sym (and-true (has (get_or rows s 0) e))
      go false = has_zero e ∙ sym (and-false (has (get_or rows s 0) e))

  -- where the state bars nothing, or counts for none, the other rows stay
  stays : ((x e : ℕ) → implies (is_child c x s) (completed c σ s e) ≡ true) → PassedTo c σ s (set rows s own)
  stays f = passed_more c tree σ rows i s P next known (set rows s own) (λ x e k n. turn x e
      ∙ sym (ap (λ (b : Bool). (has (get_or rows x 0) e && implies (eqb x s) (counted c σ x)) && b) (f x e) ∙ and-true (has (get_or rows x 0) e && implies (eqb x s) (counted c σ x))))

  pub passed_idle : get_or active s false ≡ false → PassedTo c σ s (set rows s own)
  passed_idle z = stays (λ x e. implies_by (is_child c x s) _ (λ k. completed_idle c tree σ e T s (active_is c σ above kinds active S s (sym z))))

  module _ (exits : List ℕ) (X : Column (λ x. x.exits) c exits) (z : get_or active s false ≡ true) {up unbarred : ℕ} (parent : up ≡ get_or above s 0)
      (told : unbarred ≡ cond (eqb (get_or kinds s 0) 0) (get_or exits s 0) (get_or rows s 0)) where
    -- what an active state does not bar completes it
    completes : (e : ℕ) → e < 8 → has unbarred e ≡ completed c σ s e
    unfolding implies
    completes e l = ap (λ (y : ℕ). has y e) (told ∙ ap (λ (b : Bool). cond b (get_or exits s 0) (get_or rows s 0)) basic_is) ∙ go (basic c s) refl
      where
        go : (b : Bool) → basic c s ≡ b → has (cond (basic c s) (get_or exits s 0) (get_or rows s 0)) e ≡ completed c σ s e
        go true q = ap (λ (y : ℕ). has y e) (cond_yes _ _ q ∙ X s (omega (arith, S.rooted.few))) ∙ sym (completed_basic c tree σ e s known (active_is c σ above kinds active S s (sym z)) q)
        go false q =
            ap (λ (y : ℕ). has y e) (cond_no _ _ q) ∙ P s e known l ∙ ap (λ (b : Bool). implies b (counted c σ s) && completed_from c σ i e s) (lt-leb i s (omega arith))
            ∙ completed_all c tree σ i e s (omega arith) ∙ sym (completed_composite c tree σ e s known q)

    parent_is : parent_of c s ≡ up
    parent_is = above_is c σ above kinds active S s known parent

    at_parent : (l : List ℕ) → up < length l → up < s → (x e : ℕ) → e < 8 → has (get_or (set l up (Words.bit_and (get_or l up 0) unbarred)) x 0) e ≡ (has (get_or l x 0) e && implies (is_child c x s) (completed c σ s e))
    unfolding implies
    at_parent l k h x e n = elim (ℕ_discrete x up) [
      | yes q ↦ subst (λ (y : ℕ). has (get_or (set l up (Words.bit_and (get_or l up 0) unbarred)) y 0) e ≡ (has (get_or l y 0) e && implies (is_child c y s) (completed c σ s e))) (sym q)
          (ap (λ (y : ℕ). has y e) (get_or-set_same l up _ 0 k) ∙ has_and (get_or l up 0) unbarred e
          ∙ ap (λ (b : Bool). has (get_or l up 0) e && b) (completes e n ∙ sym (ap (λ (b : Bool). implies b (completed c σ s e)) (both (not_yes (ne_eqb s 0 (λ w. omega arith))) (eq-eqb (parent_of c s) up parent_is)))))
      | no q ↦ ap (λ (y : ℕ). has y e) (get_or-set_other l up x _ 0 q)
          ∙ sym (ap (λ (b : Bool). has (get_or l x 0) e && implies b (completed c σ s e)) (ap (λ (b : Bool). not (eqb s 0) && b) (ne_eqb (parent_of c s) x (λ w. q (sym w ∙ parent_is))) ∙ and-false (not (eqb s 0))) ∙ and-true (has (get_or l x 0) e))
    ]

    pub passed_child : up < s → PassedTo c σ s (set (set rows s own) up (Words.bit_and (get_or (set rows s own) up 0) unbarred))
    passed_child h = passed_more c tree σ rows i s P next known (set (set rows s own) up (Words.bit_and (get_or (set rows s own) up 0) unbarred)) (λ x e k n.
        at_parent (set rows s own) (omega (arith, length-set rows s own)) h x e n ∙ ap (λ (b : Bool). b && implies (is_child c x s) (completed c σ s e)) (turn x e))

    -- the root has no parent
    pub passed_root : s ≤ up → PassedTo c σ s (set rows s own)
    passed_root h = stays (λ x e. implies_by (is_child c x s) _ (λ k. absurd (omega (arith, parent_is, tree.smaller s known (eqb-false s 0 (not-true _ (and_l (not (eqb s 0)) _ k)))))))
