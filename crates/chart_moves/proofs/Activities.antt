-- The active states by the tables: a tree, and what a step makes of them.
use mathlib.Core.Path.{◌≡◌, refl, sym, ap, ◌∙◌, fun_ext}
use mathlib.Core.Bool.{Bool, true, false, not, ◌&&◌, ◌||◌, or-false}
use mathlib.Core.Logic.{◌≢◌}
use mathlib.Core.List.{List, map}
use Prim.Native.Nat.{ℕ, ◌+◌, ◌≤◌, ◌<◌}
use native.Mathlib.Omega.{arith}
use native.Mathlib.Decide.{dec_lt}
use borrow.Author.Tests.{eq-eqb, ne_eqb, lt-ltb, le-ltb}
use lib.Dec.{ltb, eqb}
use lib.ListN.{length, get_or, take, drop}
use Rattle.lists.specs.Lists.{all, below, keep, implies}
use Rattle.lists.proofs.Bools.{or_l, implies_never}
use Rattle.lists.proofs.Lists.{all_map, all_both, keep_keep}
use Rattle.lists.proofs.Below.{below_next, below_end}
use Rattle.chart_records.specs.Chart.{Chart, Transition, state_at, states, parent_of, sequential, parallel}
use Rattle.chart_records.specs.Tree.{under, children}
use Rattle.chart_moves.specs.Machine.{is_active, is_tree, active_after}
use Rattle.chart_tree.specs.Table.{Rooted, adding, passing, Tabled}
use Rattle.chart_moves.specs.Active.{Shown, Moved, linked, single, below_none}
use Rattle.chart_moves.specs.declared.configuration.Configuration.{Configuration}
use Rattle.chart_moves.specs.declared.moves.Moves.{Moves}
use Rattle.chart_records.proofs.Tree.{size, parents_at, parent_known}
use Rattle.chart_tree.proofs.Tables.{adding_passing, parent_at, rooted_of}
use Rattle.chart_records.specs.Rules.{parents}
use Rattle.chart_tree.specs.declared.table.Tree.{Tree}
use Rattle.chart_moves.proofs.Destinations.{some_entered}

-- the active states beside a chart's own tables
pub shown_of : (c : Chart) (σ : Configuration) (t : Tree) (active : List Bool) → Tabled c t → parents c ≡ true → σ.active ≡ active → Shown c σ t.parents t.kinds active
shown_of c σ t active T r a = record { rooted = rooted_of c t T r; kind = T.kind; set = a }

-- how the active states lie
module _ (c : Chart) (σ : Configuration) (above kinds : List ℕ) (active : List Bool) (S : Shown c σ above kinds active) where
  pub active_is : (s : ℕ) {b : Bool} → b ≡ get_or active s false → is_active σ s ≡ b
  unfolding is_active
  active_is s e = ap (λ (l : List Bool). get_or l s false) S.set ∙ sym e

  pub above_is : (s : ℕ) {p : ℕ} → s < size c → p ≡ get_or above s 0 → parent_of c s ≡ p
  above_is s h e = sym (e ∙ parent_at c above S.rooted s (omega (arith, S.rooted.few)))

  pub kind_is : (s : ℕ) {k : ℕ} → s < size c → k ≡ get_or kinds s 0 → (state_at c s).kind ≡ k
  kind_is s h e = sym (e ∙ S.kind s (omega (arith, S.rooted.few)))

  pub linked_root : (s : ℕ) → s ≡ 0 → true ≡ linked c σ s
  linked_root s z = sym (or_l _ (eq-eqb s 0 z))

  pub linked_active : (s : ℕ) {p : ℕ} {a b : Bool} → s < size c → s ≢ 0 → p ≡ get_or above s 0 → a ≡ get_or active s false → a ≡ true → b ≡ get_or active p false → b ≡ linked c σ s
  unfolding implies
  linked_active s {b = b} h d p a t q = rw (ne_eqb s 0 d, above_is s h p, active_is _ q, active_is s (sym t ∙ a)) (sym (go (parallel c _) b))
    where
      go : (x b : Bool) → (b && (not (x && b) || true)) ≡ b
      go true true = refl
      go true false = refl
      go false true = refl
      go false false = refl

  pub linked_alone : (s : ℕ) {p k : ℕ} {a : Bool} → s < size c → s ≢ 0 → p ≡ get_or above s 0 → a ≡ get_or active s false → a ≡ false → k ≡ get_or kinds p 0 → k ≢ 2 → true ≡ linked c σ s
  unfolding implies parallel
  linked_alone s h d p a t k z = rw (ne_eqb s 0 d, above_is s h p, active_is s (sym t ∙ a), kind_is _ (rw (sym (above_is s h p)) (parent_known c (parents_at c S.rooted.rule) s h d)) k, ne_eqb _ 2 z)

  pub linked_parallel : (s : ℕ) {p k : ℕ} {a b : Bool} → s < size c → s ≢ 0 → p ≡ get_or above s 0 → a ≡ get_or active s false → a ≡ false → k ≡ get_or kinds p 0 → k ≡ 2 → b ≡ get_or active p false → not b ≡ linked c σ s
  unfolding implies parallel
  linked_parallel s {b = b} h d p a t k z q = rw (ne_eqb s 0 d, above_is s h p, active_is s (sym t ∙ a), active_is _ q, kind_is _ (rw (sym (above_is s h p)) (parent_known c (parents_at c S.rooted.rule) s h d)) k, eq-eqb _ 2 z) (sym (or-false (not b)))

  pub single_other : (q : ℕ) {k : ℕ} → q < size c → k ≡ get_or kinds q 0 → k ≢ 1 → true ≡ single c σ q
  unfolding implies sequential
  single_other q h k z = rw (kind_is q h k, ne_eqb _ 1 z)

  pub single_idle : (q : ℕ) {a : Bool} → a ≡ get_or active q false → a ≡ false → true ≡ single c σ q
  single_idle q a t = rw (active_is q (sym t ∙ a)) (sym (implies_never (sequential c q) _))

  pub single_is : (q : ℕ) {k n : ℕ} {a : Bool} → q < size c → k ≡ get_or kinds q 0 → k ≡ 1 → a ≡ get_or active q false → a ≡ true → n ≡ length (keep (is_active σ) (children c q)) → eqb n 1 ≡ single c σ q
  unfolding implies sequential
  single_is q h k z a t e = rw (kind_is q h k, eq-eqb _ 1 z, active_is q (sym t ∙ a), e)

-- an active child of q
unfoldable pub active_child : Chart → Configuration → ℕ → ℕ → Bool
active_child c σ q s = (not (eqb s 0) && eqb (parent_of c s) q) && is_active σ s

module _ (c : Chart) (σ : Configuration) (above : List ℕ) (active : List Bool) (R : Rooted c above) (a : σ.active ≡ active) (q : ℕ) where
  pub children_first : 0 + length (keep (active_child c σ q) (drop 1 (below (size c)))) ≡ length (keep (is_active σ) (children c q))
  unfolding active_child children states keep
  children_first = omega (arith, ap length (keep_keep (λ s. not (eqb s 0) && eqb (parent_of c s) q) (is_active σ) (below (size c))), not_root (size c))
    where
      -- the root is no child
      not_root : (n : ℕ) → length (keep (active_child c σ q) (below n)) ≡ length (keep (active_child c σ q) (drop 1 (below n)))
      not_root n = elim (dec_lt 0 n) [
        | yes h ↦ ap (λ (l : List ℕ). length (keep (active_child c σ q) l)) (below_next refl 0 h)
        | no h ↦ ap (λ (l : List ℕ). length (keep (active_child c σ q) l)) (below_end {m = n} {k = n} refl 0 (omega arith) ∙ sym (below_end {m = n} {k = n} refl 1 (omega arith)))
      ]

  pub active_child_lem : (s : ℕ) {x : Bool} → 0 < s → s < size c → x ≡ (eqb (get_or above s 0) q && get_or active s false) → active_child c σ q s ≡ x
  unfolding active_child is_active
  active_child_lem s z h e = rw (ne_eqb s 0 (λ k. omega arith), sym (parent_at c above R s (omega (arith, R.few))), a) (sym e)

-- the active states are a tree, in two tests of every state
module _ (c : Chart) (σ : Configuration) (active : List Bool) (n : ℕ) (a : σ.active ≡ active) (e : n ≡ size c) where
  tree_is : is_tree c σ ≡ (get_or active 0 false && (all (λ s. linked c σ s && single c σ s) (below n) && all not (drop n active)))
  unfolding is_tree is_active states
  tree_is = rw (sym a, e, sym (all_both (linked c σ) (single c σ) (below (size c)))) (go (get_or σ.active 0 false) (all (linked c σ) (below (size c))) (all (single c σ) (below (size c))) _)
    where
      go : (x y z w : Bool) → (x && (y && (z && w))) ≡ (x && ((y && z) && w))
      go false y z w = refl
      go true false z w = refl
      go true true z w = refl

  pub tree_rootless : get_or active 0 false ≡ false → false ≡ is_tree c σ
  tree_rootless h = sym (tree_is ∙ rw h)

  pub tree_unplaced : {b : Bool} → get_or active 0 false ≡ true → b ≡ all (λ s. linked c σ s && single c σ s) (below n) → b ≡ false → false ≡ is_tree c σ
  tree_unplaced h q k = sym (tree_is ∙ rw (h, sym q, k))

  pub tree_rest : {b d : Bool} → get_or active 0 false ≡ true → b ≡ all (λ s. linked c σ s && single c σ s) (below n) → b ≡ true → d ≡ all not (drop n active) → d ≡ is_tree c σ
  tree_rest h q k r = sym (tree_is ∙ rw (h, sym q, k) (sym r))

-- what is left of the active states
module _ (c : Chart) (s n : ℕ) (q : n ≡ size c) where
  pub remains_past : (x : Bool) → n ≤ s → false ≡ (ltb s (size c) && x)
  remains_past x h = rw (le-ltb s (size c) (omega arith))

  pub remains_idle : {a b : Bool} (x : Bool) → s < n → a ≡ b → a ≡ false → false ≡ (ltb s (size c) && (b && x))
  remains_idle x h e z = rw (lt-ltb s (size c) (omega arith), sym e, z)

  pub remains_by : {a b x y : Bool} → s < n → a ≡ b → a ≡ true → y ≡ x → y ≡ (ltb s (size c) && (b && x))
  remains_by h e z k = rw (lt-ltb s (size c) (omega arith), sym e, z) k

-- the active states after a step
pub after_is : (w : ℕ) (c : Chart) (ts : List Transition) (m : Moves) → Moved ts m → (σ : Configuration) (active : List Bool) {n : ℕ} → σ.active ≡ active → n ≡ length ts →
    adding w c (some_entered c ts) (passing w c (λ s. get_or active s false && below_none c (take n m.sources) s)) ≡ map (λ s. ltb s (size c) && active_after c σ ts s) (below w)
unfolding active_after is_active
after_is w c ts m M σ active a e = adding_passing w c _ (some_entered c ts) ∙ ap (λ (f : ℕ → Bool). map (λ s. ltb s (size c) && f s) (below w)) (fun_ext (λ s.
    rw (sym a, e, sym M.sources) (ap (λ (b : Bool). (get_or σ.active s false && b) || some_entered c ts s) (all_map (λ m. not (under c m s)) (λ t. t.source) ts))))
