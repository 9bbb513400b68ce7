-- The active states: what it says that they are a tree, and that a state is completed.
use mathlib.Core.Path.{◌≡◌, sym, ap, ◌∙◌, subst}
use mathlib.Core.Bool.{Bool, true, false, not, ◌&&◌, ◌||◌}
use mathlib.Core.Logic.{◌≢◌, ⊎_elim}
use Prim.Native.Nat.{ℕ, zero, suc, ◌+◌, ◌≤◌, ◌<◌}
use native.Mathlib.Omega.{arith}
use native.Mathlib.Decide.{ℕ_discrete, dec_lt}
use borrow.Author.Tests.{eqb-true, eq-eqb, ne_eqb}
use lib.Dec.{eqb}
use lib.ListN.{length, drop}
use Rattle.lists.specs.Lists.{has, all, keep, implies}
use Rattle.clocks.specs.Clocks.{keeps}
use Rattle.lists.proofs.Bools.{parts, clash, decided, and_l, and_r, both, or_l, or_r, or_else, implies_at, implies_by}
use Rattle.lists.proofs.Lists.{all_at, all_by, keep_at, keep_by, one_mem}
use Rattle.lists.proofs.Columns.{past_at, past_by}
use Rattle.lists.proofs.Once.{one_length, once_keep}
use Rattle.chart_records.specs.Chart.{Chart, state_at, states, parent_of, basic, sequential, parallel}
use Rattle.chart_records.specs.Tree.{under, children, fixed}
use Rattle.chart_moves.specs.Machine.{is_active, is_tree, bounds_kept, completed}
use Rattle.chart_moves.specs.declared.configuration.Configuration.{Configuration}
use Rattle.chart_records.proofs.Tree.{size, states_at, states_by, Child, children_at, children_by, children_once, own_child, Parents, tree_induction, parent_known, under_down, child_towards, root_under, under_refl, under_transitive, child_under, child_above}
use Rattle.chart_records.proofs.Fixed.{fixed_below, fixed_parallel}

-- the one child of q that passes a test
pub record OneChild (c : Chart) (p : ℕ → Bool) (q : ℕ) : Type 0 where
  pub child : ℕ
  pub is_child_lem : Child c q child
  pub passes : p child ≡ true
  pub alone : (t : ℕ) → Child c q t → p t ≡ true → t ≡ child

-- as a number
pub one_child_at : (c : Chart) (p : ℕ → Bool) (q : ℕ) → length (keep p (children c q)) ≡ 1 → OneChild c p q
one_child_at c p q h =
    let r = one_mem (keep p (children c q)) h in
    let a = keep_at p (children c q) r.1 in
    record { child = r.0; is_child_lem = children_at c q a.0; passes = a.1; alone = λ t k e. r.2 t (keep_by p (children c q) (children_by c k) e) }

pub one_child_by : (c : Chart) (p : ℕ → Bool) (q : ℕ) → OneChild c p q → length (keep p (children c q)) ≡ 1
one_child_by c p q o =
    one_length (keep p (children c q)) (once_keep p _ (children_once c q)) o.child (keep_by p _ (children_by c o.is_child_lem) o.passes)
    (λ t m. let a = keep_at p (children c q) m in o.alone t (children_at c q a.0) a.1)

-- a set of states is a tree
pub record IsTree (c : Chart) (p : ℕ → Bool) : Type 0 where
  pub root : p 0 ≡ true
  pub up : (s : ℕ) → s < size c → s ≢ 0 → p s ≡ true → p (parent_of c s) ≡ true
  pub every : (q s : ℕ) → Child c q s → parallel c q ≡ true → p q ≡ true → p s ≡ true
  pub one : (q : ℕ) → q < size c → sequential c q ≡ true → p q ≡ true → OneChild c p q
  pub none : (s : ℕ) → size c ≤ s → p s ≡ false

-- nothing is active from n on
past_active : (σ : Configuration) (n i : ℕ) → all not (drop n σ.active) ≡ true → n ≤ i → is_active σ i ≡ false
unfolding is_active
past_active σ n i h k = past_at σ.active n i h k

active_past : (σ : Configuration) (n : ℕ) → ((i : ℕ) → n ≤ i → is_active σ i ≡ false) → all not (drop n σ.active) ≡ true
unfolding is_active
active_past σ n f = past_by σ.active n f

pub tree_at : (c : Chart) (σ : Configuration) → is_tree c σ ≡ true → IsTree c (is_active σ)
unfolding is_tree
tree_at c σ h = record {
  root = and_l (is_active σ 0) _ h;
  up = λ s k d a. implies_at (is_active σ s) _ (let z = both_ways s k d in search parts) a;
  every = λ q s k p a. implies_at _ (is_active σ s) (let z = both_ways s k.known k.below_root in search parts) (both (ap (parallel c) k.parent_is ∙ p) (ap (is_active σ) k.parent_is ∙ a));
  one = λ q k p a. one_child_at c (is_active σ) q (eqb-true _ 1 (implies_at (sequential c q && is_active σ q) _ (all_at _ _ (and_l _ (all not (drop (size c) σ.active)) (and_r (all _ (states c)) _ (and_r (is_active σ 0) _ h))) (states_by c k)) (both p a)));
  none = λ s k. past_active σ (size c) s (and_r (all _ (states c)) _ (and_r (all _ (states c)) _ (and_r (is_active σ 0) _ h))) k;
}
  where
    both_ways : (s : ℕ) → s < size c → s ≢ 0 → (implies (is_active σ s) (is_active σ (parent_of c s)) && implies (parallel c (parent_of c s) && is_active σ (parent_of c s)) (is_active σ s)) ≡ true
    both_ways s k d = or_else (eqb s 0) _ (all_at _ _ (and_l (all _ (states c)) _ (and_r (is_active σ 0) _ h)) (states_by c k)) (ne_eqb s 0 d)

pub tree_by : (c : Chart) (σ : Configuration) → IsTree c (is_active σ) → is_tree c σ ≡ true
unfolding is_tree
tree_by c σ t =
    both t.root
    (both (all_by _ _ (λ s m. at-state s (states_at c m)))
    (both (all_by _ _ (λ q m. implies_by (sequential c q && is_active σ q) _ (λ a. eq-eqb _ 1 (one_child_by c (is_active σ) q (t.one q (states_at c m) (and_l (sequential c q) _ a) (and_r (sequential c q) _ a))))))
    (active_past σ (size c) t.none)))
  where
    at-state : (s : ℕ) → s < size c → (eqb s 0 || (implies (is_active σ s) (is_active σ (parent_of c s)) && implies (parallel c (parent_of c s) && is_active σ (parent_of c s)) (is_active σ s))) ≡ true
    at-state s k = elim (ℕ_discrete s 0) [
      | yes e ↦ or_l _ (eq-eqb s 0 e)
      | no d ↦ or_r (eqb s 0) (both (implies_by (is_active σ s) _ (t.up s k d)) (implies_by _ (is_active σ s) (λ a. t.every (parent_of c s) s (own_child c k d) (and_l (parallel c (parent_of c s)) _ a) (and_r (parallel c (parent_of c s)) _ a))))
    ]

-- completed: every active basic state at or below m is marked
pub completed_at : (c : Chart) (σ : Configuration) (m e : ℕ) → completed c σ m e ≡ true → (s : ℕ) → s < size c → is_active σ s ≡ true → basic c s ≡ true → under c m s ≡ true → has (state_at c s).exits e ≡ true
unfolding completed
completed_at c σ m e h s k a b u = implies_at _ (has (state_at c s).exits e) (all_at _ _ h (states_by c k)) (both a (both b u))

pub completed_by : (c : Chart) (σ : Configuration) (m e : ℕ) → ((s : ℕ) → s < size c → is_active σ s ≡ true → basic c s ≡ true → under c m s ≡ true → has (state_at c s).exits e ≡ true) → completed c σ m e ≡ true
unfolding completed
completed_by c σ m e f = all_by _ _ (λ s n. implies_by (is_active σ s && (basic c s && under c m s)) _ (λ a. f s (states_at c n) (and_l (is_active σ s) _ a) (and_l (basic c s) _ (and_r (is_active σ s) _ a)) (and_r (basic c s) _ (and_r (is_active σ s) _ a))))

-- every active state keeps its bounds
pub bounds_kept_at : (c : Chart) (σ : Configuration) → bounds_kept c σ ≡ true → (s : ℕ) → s < size c → is_active σ s ≡ true → keeps (state_at c s).bounds σ.clocks ≡ true
unfolding bounds_kept
bounds_kept_at c σ h s k a = implies_at (is_active σ s) _ (all_at _ _ h (states_by c k)) a

pub bounds_kept_by : (c : Chart) (σ : Configuration) → ((s : ℕ) → s < size c → is_active σ s ≡ true → keeps (state_at c s).bounds σ.clocks ≡ true) → bounds_kept c σ ≡ true
unfolding bounds_kept
bounds_kept_by c σ f = all_by _ _ (λ s m. implies_by (is_active σ s) _ (f s (states_at c m)))

module _ (c : Chart) (tree : Parents c) (p : ℕ → Bool) (active : IsTree c p) where
  -- what is above an active state is active
  pub active_above : (m s : ℕ) → s < size c → under c m s ≡ true → p s ≡ true → p m ≡ true
  active_above m = tree_induction c tree (λ s. under c m s ≡ true → p s ≡ true → p m ≡ true)
      (λ u a. subst (λ (x : ℕ). p x ≡ true) (sym (root_under c m u)) a)
      (λ s h d f u a. elim (ℕ_discrete s m) [ yes e ↦ subst (λ (x : ℕ). p x ≡ true) e a | no z ↦ f (under_down c tree m s h z u).1 (active.up s h d a) ])

  -- what is active below an active sequential state is the state, or lies under its active child
  pub active_below : (q s : ℕ) → (o : OneChild c p q) → s < size c → under c q s ≡ true → s ≢ q → p s ≡ true → under c o.child s ≡ true
  active_below q s o h u d a =
      let r = child_towards c tree q s h u d in
      subst (λ (x : ℕ). under c x s ≡ true) (o.alone r.0 r.1 (active_above r.0 s h r.2 a)) r.2

  -- with a fixed state all that lies below it is active
  pub active_fixed : ((s : ℕ) → s < size c → basic c s ≡ false → parallel c s ≡ false → sequential c s ≡ true)
      → (m : ℕ) → fixed c m ≡ true → p m ≡ true → (s : ℕ) → s < size c → under c m s ≡ true → p s ≡ true
  active_fixed kinds m f a = tree_induction c tree (λ s. under c m s ≡ true → p s ≡ true)
      (λ u. subst (λ (x : ℕ). p x ≡ true) (root_under c m u) a)
      (λ s h d g u. elim (ℕ_discrete s m) [
        | yes e ↦ subst (λ (x : ℕ). p x ≡ true) (sym e) a
        | no z ↦ let v = (under_down c tree m s h z u).1 in
            active.every (parent_of c s) s (own_child c h d) (fixed_parallel c tree kinds (parent_of c s) (parent_known c tree s h d) (fixed_below c tree m (parent_of c s) f v) (tree.composite s h d)) (g v)
      ])

  -- below an active state an active state is basic
  pub active_basic : ((s : ℕ) → s < size c → basic c s ≡ false → parallel c s ≡ false → sequential c s ≡ true)
      → (n s : ℕ) → size c ≤ n + s → s < size c → p s ≡ true → (b : ℕ) × (b < size c) × (basic c b ≡ true) × (p b ≡ true) × (under c s b ≡ true)
  active_basic kinds zero s l h a = absurd (omega arith)
  active_basic kinds (suc n) s l h a = ⊎_elim
      (λ b. (s, h, b, a, under_refl c s))
      (λ b. ⊎_elim
      (λ z. let r = tree.fertile s h b in below r.1 (active_basic kinds n r.0 (omega (arith, child_above c tree r.1)) r.1.known (active.every s r.0 r.1 z a)))
      (λ z. let o = active.one s h (kinds s h b z) a in below o.is_child_lem (active_basic kinds n o.child (omega (arith, child_above c tree o.is_child_lem)) o.is_child_lem.known o.passes))
      (decided (parallel c s)))
      (decided (basic c s))
    where
      below : {r : ℕ} → Child c s r → ((b : ℕ) × (b < size c) × (basic c b ≡ true) × (p b ≡ true) × (under c r b ≡ true)) → (b : ℕ) × (b < size c) × (basic c b ≡ true) × (p b ≡ true) × (under c s b ≡ true)
      below {r} k w = (w.0, w.1, w.2, w.3, under_transitive c tree s r w.0 w.1 (child_under c tree k) w.4)

-- what is active is a state of the chart
pub active_known : (c : Chart) (p : ℕ → Bool) → IsTree c p → (s : ℕ) → p s ≡ true → s < size c
active_known c p t s a = elim (dec_lt s (size c)) [ yes h ↦ h | no h ↦ clash a (t.none s (omega arith)) ]
