-- Laws of the sets of completion: what they have, that the test of a transition can be read from them, and completion by the
-- children of a state.
use mathlib.Core.Path.{◌≡◌, refl, sym, ap, ◌∙◌, subst}
use mathlib.Core.Bool.{Bool, true, false, not, ◌&&◌, ◌||◌, and-true}
use mathlib.Core.List.{List, [], Memᴰ as Mem}
use Prim.Native.Nat.{ℕ, ◌≤◌, ◌<◌}
use native.Mathlib.Omega.{arith}
use native.Mathlib.Decide.{ℕ_discrete}
use lib.ListN.{get_or}
use Rattle.lists.specs.Lists.{has, all, elem, implies}
use Rattle.lists.proofs.Bools.{clash, fails, and_l, and_r, both, implies_at, implies_by, implies_never, same}
use Rattle.lists.proofs.Lists.{all_at, all_by, keep_at, keep_by, keep_none, elem_at, elem_by}
use Rattle.lists.proofs.Bits.{has_high}
use Rattle.labels.specs.Label.{guards_hold}
use Rattle.chart_records.specs.Chart.{Chart, Transition, state_at, states, basic, parallel}
use Rattle.chart_records.specs.Tree.{children, plain, fixed, shares}
use Rattle.chart_moves.specs.Machine.{is_active, is_tree, completed, active_transition}
use Rattle.chart_moves.specs.Completion.{complete_set, CompleteIn}
use Rattle.chart_moves.specs.declared.configuration.Configuration.{Configuration}
use Rattle.chart_records.proofs.Tree.{size, states_at, states_by, children_at, children_by, Parents, parallel_not_basic, under_refl, under_transitive, child_under, child_towards}
use Rattle.chart_records.proofs.Fixed.{shares_at, shares_by}
use Rattle.chart_records.proofs.Rules.{Passed, kinds_left}
use Rattle.chart_records.proofs.Ranges.{Ranges, kinds_of}
use Rattle.chart_moves.proofs.Active.{IsTree, completed_at, completed_by, tree_at, active_above, active_basic, active_fixed}

module _ (c : Chart) (σ : Configuration) where
  -- a state is in the set of an exit if it is active, composite and completed
  pub complete_is : (m e : ℕ) → m < size c → elem m (complete_set c σ e) ≡ (is_active σ m && (not (basic c m) && completed c σ m e))
  unfolding complete_set
  complete_is m e h = same _ _ (λ k. (keep_at _ (states c) (elem_at m _ k)).1) (λ k. elem_by m (keep_by _ (states c) (states_by c h) k))

  -- the completion of an active composite state, by the set
  pub completed_by_set : (m e : ℕ) → m < size c → is_active σ m ≡ true → basic c m ≡ false → completed c σ m e ≡ elem m (complete_set c σ e)
  completed_by_set m e h a b = sym (complete_is m e h ∙ rw (a, b))

  -- a transition is active if its source is, its guards hold, and the source is basic or in the set of the exit
  pub active_by_set : (t : Transition) → t.source < size c → active_transition c σ t
      ≡ (is_active σ t.source && (guards_hold σ.variables σ.clocks t.label && (basic c t.source || elem t.source (complete_set c σ t.exit))))
  unfolding active_transition
  active_by_set t h =
      go (is_active σ t.source) (guards_hold σ.variables σ.clocks t.label) (basic c t.source) (completed c σ t.source t.exit)
      ∙ ap (λ (b : Bool). is_active σ t.source && (guards_hold σ.variables σ.clocks t.label && (basic c t.source || b))) (sym (complete_is t.source t.exit h))
    where
      go : (a g b k : Bool) → (a && (g && (b || k))) ≡ (a && (g && (b || (a && (not b && k)))))
      go false g b k = refl
      go true false b k = refl
      go true true true k = refl
      go true true false k = refl

  -- as the table has it
  pub complete_in_is : (rows : List ℕ) → CompleteIn c σ rows → (m e : ℕ) → m < size c → e < 8 → has (get_or rows m 0) e ≡ elem m (complete_set c σ e)
  complete_in_is rows C m e h l = same _ _
      (λ k. elem_by m (subst (Mem m) (C e l) (keep_by _ (states c) (states_by c h) k)))
      (λ k. (keep_at _ (states c) (subst (Mem m) (sym (C e l)) (elem_at m _ k))).1)

-- a state is completed if each child is, and the state itself does not bar the exit
module _ (c : Chart) (tree : Parents c) (σ : Configuration) (e : ℕ) where
  pub completed_step : (m : ℕ) → m < size c → completed c σ m e ≡ (all (λ r. completed c σ r e) (children c m) && implies (is_active σ m && basic c m) (has (state_at c m).exits e))
  completed_step m h = same _ _ down up
    where
      down : completed c σ m e ≡ true → (all (λ r. completed c σ r e) (children c m) && implies (is_active σ m && basic c m) (has (state_at c m).exits e)) ≡ true
      down k = both
          (all_by _ _ (λ r n. let q = children_at c m n in completed_by c σ r e (λ s l a b u. completed_at c σ m e k s l a b (under_transitive c tree m r s l (child_under c tree q) u))))
          (implies_by (is_active σ m && basic c m) _ (λ a. completed_at c σ m e k m h (and_l (is_active σ m) _ a) (and_r (is_active σ m) _ a) (under_refl c m)))

      up : (all (λ r. completed c σ r e) (children c m) && implies (is_active σ m && basic c m) (has (state_at c m).exits e)) ≡ true → completed c σ m e ≡ true
      up k = completed_by c σ m e (λ s l a b u. elim (ℕ_discrete s m) [
        | yes q ↦ subst (λ (x : ℕ). has (state_at c x).exits e ≡ true) (sym q) (implies_at (is_active σ m && basic c m) _ (and_r (all (λ r. completed c σ r e) (children c m)) _ k)
            (both (subst (λ (x : ℕ). is_active σ x ≡ true) q a) (subst (λ (x : ℕ). basic c x ≡ true) q b)))
        | no d ↦ let w = child_towards c tree m s l u d in
            completed_at c σ w.0 e (all_at _ _ (and_l (all (λ r. completed c σ r e) (children c m)) _ k) (children_by c w.1)) s l a b w.2
      ])

  -- of a composite state all children have to be, of an active basic one it is a matter of its own marks
  pub completed_composite : (m : ℕ) → m < size c → basic c m ≡ false → completed c σ m e ≡ all (λ r. completed c σ r e) (children c m)
  unfolding implies
  completed_composite m h b = completed_step m h ∙ ap (λ (x : Bool). all (λ r. completed c σ r e) (children c m) && implies (is_active σ m && x) (has (state_at c m).exits e)) b
      ∙ ap (λ (x : Bool). all (λ r. completed c σ r e) (children c m) && x) (implies_never (is_active σ m) _) ∙ and-true _

  pub completed_basic : (m : ℕ) → m < size c → is_active σ m ≡ true → basic c m ≡ true → completed c σ m e ≡ has (state_at c m).exits e
  unfolding implies
  completed_basic m h a b = completed_step m h ∙ rw (a, b, all_by (λ r. completed c σ r e) (children c m) (λ r n. let k = children_at c m n in clash b (ap (basic c) (sym k.parent_is) ∙ tree.composite r k.known k.below_root)))

  -- below a state that is not active nothing is
  pub completed_idle : IsTree c (is_active σ) → (m : ℕ) → is_active σ m ≡ false → completed c σ m e ≡ true
  completed_idle T m i = completed_by c σ m e (λ s l a b u. clash (active_above c tree (is_active σ) T m s l u a) i)

-- in a configuration of a chart that passes the check
module _ (c : Chart) (passed : Passed c) (ranges : Ranges c) (σ : Configuration) (given : is_tree c σ ≡ true) (e : ℕ) where
  -- the set of an exit that the chart does not declare is empty: below an active composite state there is an active basic one, which
  -- is not marked with it
  pub undeclared_none : c.exits ≤ e → complete_set c σ e ≡ []
  unfolding complete_set
  undeclared_none l = keep_none _ (states c) (λ m n. fails _ (λ k.
      let r = and_r (is_active σ m) _ k in
      let b = active_basic c passed.tree (is_active σ) (tree_at c σ given) (kinds_left c (kinds_of ranges)) (size c) m (omega arith) (states_at c n) (and_l (is_active σ m) _ k) in
      clash (completed_at c σ m e (and_r (not (basic c m)) _ r) b.0 b.1 b.3 b.2 b.4) (has_high c.exits _ e (ranges.of_state b.0 b.1).exits_small l)))

  -- an active parallel state with no sequential state below it is in the set if all basic states below it are marked: all are active
  pub plain_complete : (m : ℕ) → m < size c → plain c m ≡ true → is_active σ m ≡ true → elem m (complete_set c σ e) ≡ shares c e m
  unfolding plain
  plain_complete m h p a =
      let composite = parallel_not_basic c m (and_l (parallel c m) (fixed c m) p) in
      sym (completed_by_set c σ m e h a composite) ∙ same _ _
      (λ k. shares_by c e m (λ s l b u. completed_at c σ m e k s l (active_fixed c passed.tree (is_active σ) (tree_at c σ given) (kinds_left c (kinds_of ranges)) m (and_r (parallel c m) (fixed c m) p) a s l u) b u))
      (λ k. completed_by c σ m e (λ s l x b u. shares_at c e m k s l b u))
