-- The start is a tree, and a step keeps it.
use mathlib.Core.Path.{◌≡◌, refl, sym, ap, ◌∙◌, subst, fun_ext}
use mathlib.Core.Bool.{Bool, true, false, not, ◌&&◌}
use mathlib.Core.Logic.{◌⊎◌, inl, inr, ⊎_elim, ◌≢◌}
use mathlib.Core.List.{List, map, map-map, Memᴰ as Mem}
use Prim.Native.Nat.{ℕ, ◌≤◌, ◌<◌}
use native.Mathlib.Omega.{arith}
use native.Mathlib.Decide.{ℕ_discrete}
use borrow.Author.Tests.{eqb-true, eq-eqb, not-true, lt-ltb, le-ltb}
use lib.Dec.{ltb, eqb}
use Rattle.lists.specs.Lists.{all, any}
use Rattle.labels.specs.Label.{Label}
use Rattle.steps.specs.Moves.{clocks_after}
use Rattle.lists.proofs.Bools.{clash, fails, and_l, and_r, both, or_l, or_r, or_cases, not_yes}
use Rattle.lists.proofs.Lists.{all_at, all_by, any_at, any_by}
use Rattle.lists.proofs.Columns.{made}
use Rattle.chart_records.specs.Chart.{Chart, Transition, transition_at, parent_of, sequential, parallel}
use Rattle.chart_records.specs.Tree.{under, entered}
use Rattle.chart_moves.specs.Machine.{is_active, is_tree, start, after, active_after}
use Rattle.chart_moves.specs.declared.configuration.Configuration.{Configuration}
use Rattle.chart_records.proofs.Tree.{size, Child, Parents, under_refl, under_le, under_transitive, under_up, under_down, comparable, root_under, child_under, child_above, sequential_not_parallel}
use Rattle.chart_records.proofs.Entered.{Entry, EntryMarks, entered_top, entered_under, entered_parent, entered_all, entered_one}
use Rattle.chart_moves.proofs.Active.{OneChild, IsTree, tree_at, tree_by, active_above}

-- a tree by any test that says the same of the chart's states
pub known_tree : (c : Chart) (p : ℕ → Bool) (σ : Configuration) → ((s : ℕ) → is_active σ s ≡ (ltb s (size c) && p s)) → IsTree c (λ s. ltb s (size c) && p s) → is_tree c σ ≡ true
known_tree c p σ f t = tree_by c σ (subst (IsTree c) (sym (fun_ext f)) t)

-- a test on the chart's states
module _ (c : Chart) (p : ℕ → Bool) where
  pub on : {s : ℕ} → s < size c → p s ≡ true → (ltb s (size c) && p s) ≡ true
  on h e = both (lt-ltb _ _ h) e

  pub off : (s : ℕ) → (ltb s (size c) && p s) ≡ true → p s ≡ true
  off s e = and_r (ltb s (size c)) (p s) e

pub start_active : (c : Chart) → size c ≤ 48 → (s : ℕ) → is_active (start c) s ≡ (ltb s (size c) && entered c 0 0 s)
unfolding is_active start
start_active c few s = made 48 (entered c 0 0) (size c) few s

pub after_active : (c : Chart) (σ : Configuration) (ts : List Transition) → size c ≤ 48 → (s : ℕ) → is_active (after c ts σ) s ≡ (ltb s (size c) && active_after c σ ts s)
unfolding is_active after
after_active c σ ts few s = made 48 (active_after c σ ts) (size c) few s

-- the clocks after a step, by the numbers of its transitions
pub after_clocks : (c : Chart) (σ : Configuration) (ms : List ℕ) → (after c (map (transition_at c) ms) σ).clocks ≡ clocks_after (map (λ m. (transition_at c m).label) ms) σ.clocks
unfolding after
after_clocks c σ ms = ap (λ (ls : List Label). clocks_after ls σ.clocks) (map-map (λ (t : Transition). t.label) (transition_at c) ms)

-- what is active after a step was active, or is entered
pub after_cases : (c : Chart) (σ : Configuration) (ts : List Transition) → size c ≤ 48 → (s : ℕ) → is_active (after c ts σ) s ≡ true
    → (is_active σ s ≡ true) ⊎ ((t : Transition) × Mem t ts × (entered c t.destination t.entry s ≡ true))
unfolding active_after
after_cases c σ ts few s h = ⊎_elim (λ k. inl (and_l (is_active σ s) _ k)) (λ k. inr (any_at _ ts k))
    (or_cases (is_active σ s && all (λ t. not (under c t.source s)) ts) _ (and_r (ltb s (size c)) _ (sym (after_active c σ ts few s) ∙ h)))

pub after_entered : (c : Chart) (σ : Configuration) (ts : List Transition) → size c ≤ 48 → {t : Transition} → Mem t ts → (s : ℕ) → s < size c → entered c t.destination t.entry s ≡ true → is_active (after c ts σ) s ≡ true
unfolding active_after
after_entered c σ ts few m s h e = after_active c σ ts few s ∙ both (lt-ltb s (size c) h) (or_r (is_active σ s && all (λ t. not (under c t.source s)) ts) (any_by (λ t. entered c t.destination t.entry s) m e))

-- the states that are entered at the start
pub start_is_tree : (c : Chart) → Parents c → EntryMarks c → 0 < size c → size c ≤ 48 → Entry c 0 0 → is_tree c (start c) ≡ true
start_is_tree c tree marks some few entry = known_tree c (entered c 0 0) (start c) (start_active c few) (record {
  root = on c (entered c 0 0) some (entered_top c tree marks 0 some entry);
  up = λ s k d a. let r = entered_parent c tree marks 0 some s entry k d (off c (entered c 0 0) s a) in on c (entered c 0 0) (omega (arith, tree.smaller s k d)) r.1;
  every = λ q s k z a. on c (entered c 0 0) k.known (entered_all c tree marks 0 some q s entry k z (off c (entered c 0 0) q a));
  one = λ q k z a. let r = entered_one c tree marks 0 some q entry k z (off c (entered c 0 0) q a) in
      record { child = r.0; is_child_lem = r.1; passes = on c (entered c 0 0) r.1.known r.2; alone = λ t j b. r.3 t j (off c (entered c 0 0) t b) };
  none = λ s k. ap (λ (b : Bool). b && entered c 0 0 s) (le-ltb s (size c) k);
})

-- a transition that can be taken: source and destination are children of one sequential state, the source is active
pub record Fires (c : Chart) (p : ℕ → Bool) (t : Transition) : Type 0 where
  pub from : Child c (parent_of c t.source) t.source
  pub to : Child c (parent_of c t.source) t.destination
  pub home_sequential : sequential c (parent_of c t.source) ≡ true
  pub from_active : p t.source ≡ true
  pub entry_is : Entry c t.destination t.entry

abbrev home_of : Chart → Transition → ℕ
home_of c t = parent_of c t.source

module _ (c : Chart) (tree : Parents c) (marks : EntryMarks c) (p : ℕ → Bool) (active : IsTree c p) (ts : List Transition)
    (fires : (t : Transition) → Mem t ts → Fires c p t)
    (not_nested : (t u : Transition) → Mem t ts → Mem u ts → under c (home_of c t) (home_of c u) ≡ true → t ≡ u) where
  home_known : (t : Transition) → Mem t ts → home_of c t < size c
  home_known t m = let k = (fires t m).from in omega (arith, child_above c tree k, k.known)

  -- the home lies above the source and the destination
  home_to : (t : Transition) → Mem t ts → (s : ℕ) → s < size c → under c t.destination s ≡ true → under c (home_of c t) s ≡ true
  home_to t m s h u = under_transitive c tree _ t.destination s h (child_under c tree (fires t m).to) u

  home_from : (t : Transition) → Mem t ts → (s : ℕ) → s < size c → under c t.source s ≡ true → under c (home_of c t) s ≡ true
  home_from t m s h u = under_transitive c tree _ t.source s h (child_under c tree (fires t m).from) u

  -- no source and no destination lies above a home
  pub free_of_source : (t u : Transition) → Mem t ts → Mem u ts → under c u.source (home_of c t) ≡ true → ⊥
  free_of_source t u m n v =
      let e = not_nested u t n m (home_from u n _ (home_known t m) v) in
      omega (arith, under_le c tree t.source (home_of c t) (home_known t m) (ap (λ (w : Transition). under c w.source (home_of c t)) (sym e) ∙ v), child_above c tree (fires t m).from)

  pub free_of_destination : (t u : Transition) → Mem t ts → Mem u ts → under c u.destination (home_of c t) ≡ true → ⊥
  free_of_destination t u m n v =
      let e = not_nested u t n m (home_to u n _ (home_known t m) v) in
      omega (arith, under_le c tree t.destination (home_of c t) (home_known t m) (ap (λ (w : Transition). under c w.destination (home_of c t)) (sym e) ∙ v), child_above c tree (fires t m).to)

  -- a destination that was active is the source
  pub destination_active : (t : Transition) → Mem t ts → p t.destination ≡ true → t.destination ≡ t.source
  destination_active t m a =
      let f = fires t m in
      let k = f.from in
      let o = active.one (home_of c t) (home_known t m) f.home_sequential (active.up t.source k.known k.below_root f.from_active) in
      o.alone t.destination f.to a ∙ sym (o.alone t.source k f.from_active)

  -- two destinations above one state belong to one transition
  pub destinations_same : (t u : Transition) → Mem t ts → Mem u ts → (s : ℕ) → s < size c → under c t.destination s ≡ true → under c u.destination s ≡ true → t ≡ u
  destinations_same t u m n s h a b = ⊎_elim (λ v. go t u m n v) (λ v. sym (go u t n m v)) (comparable c tree t.destination u.destination s h a b)
    where
      go : (t u : Transition) → Mem t ts → Mem u ts → under c t.destination u.destination ≡ true → t ≡ u
      go t u m n v = elim (ℕ_discrete u.destination t.destination) [
        | yes e ↦ not_nested t u m n (ap (under c (home_of c t)) (sym (fires u n).to.parent_is ∙ ap (parent_of c) e ∙ (fires t m).to.parent_is) ∙ under_refl c (home_of c t))
        | no d ↦ absurd (free_of_destination u t n m (subst (λ (x : ℕ). under c t.destination x ≡ true) (fires u n).to.parent_is (under_down c tree t.destination u.destination (fires u n).to.known d v).1))
      ]

  -- s was active and lies below no source
  abbrev Stays : ℕ → Type 0
  Stays s = (p s ≡ true) × ((t : Transition) → Mem t ts → under c t.source s ≡ true → ⊥)

  -- s is entered by a transition
  abbrev Comes : ℕ → Type 0
  Comes s = (t : Transition) × Mem t ts × (entered c t.destination t.entry s ≡ true)

  abbrev Stands : ℕ → Type 0
  Stands s = Stays s ⊎ Comes s

  to_known : (t : Transition) → Mem t ts → t.destination < size c
  to_known t m = (fires t m).to.known

  below_to : (t : Transition) → Mem t ts → (s : ℕ) → entered c t.destination t.entry s ≡ true → under c t.destination s ≡ true
  below_to t m s h = entered_under c tree marks t.destination (to_known t m) s (fires t m).entry_is h

  -- what stays is below no destination
  pub stays_clear : (s : ℕ) → s < size c → Stays s → (t : Transition) → Mem t ts → under c t.destination s ≡ true → ⊥
  stays_clear s h k t m u = k.1 t m (subst (λ (x : ℕ). under c x s ≡ true) (destination_active t m (active_above c tree p active t.destination s h u k.0)) u)

  -- the home of a transition stays
  pub home_stays : (t : Transition) → Mem t ts → Stays (home_of c t)
  home_stays t m = let f = fires t m in (active.up t.source f.from.known f.from.below_root f.from_active, λ u n v. free_of_source t u m n v)

  stands_root : Stands 0
  stands_root = inl (active.root, λ t m u. (fires t m).from.below_root (root_under c t.source u))

  stands_up : (s : ℕ) → s < size c → s ≢ 0 → Stands s → Stands (parent_of c s)
  stands_up s h d (inl k) = inl (active.up s h d k.0, λ t m u. k.1 t m (under_up c tree t.source s h d u))
  stands_up s h d (inr k) = elim (ℕ_discrete s k.0.destination) [
    | yes e ↦ inl (subst Stays (sym (fires k.0 k.1).to.parent_is ∙ ap (parent_of c) (sym e)) (home_stays k.0 k.1))
    | no z ↦ inr (k.0, k.1, (entered_parent c tree marks k.0.destination (to_known k.0 k.1) s (fires k.0 k.1).entry_is h z k.2).1)
  ]

  -- a child of a state that stays, and no source itself, lies below no source
  child_clear : {q s : ℕ} → Child c q s → Stays q → ((t : Transition) → Mem t ts → s ≡ t.source → ⊥) → (t : Transition) → Mem t ts → under c t.source s ≡ true → ⊥
  child_clear {q} {s} j k n t m u = elim (ℕ_discrete s t.source) [
    | yes e ↦ n t m e
    | no d ↦ k.1 t m (ap (under c t.source) (sym j.parent_is) ∙ (under_down c tree t.source s j.known d u).1)
  ]

  stands_every : (q s : ℕ) → Child c q s → parallel c q ≡ true → Stands q → Stands s
  stands_every q s j z (inl k) = inl (active.every q s j z k.0, child_clear j k (λ t m e. clash z (ap (parallel c) (sym j.parent_is ∙ ap (parent_of c) e) ∙ sequential_not_parallel c _ (fires t m).home_sequential)))
  stands_every q s j z (inr k) = inr (k.0, k.1, entered_all c tree marks k.0.destination (to_known k.0 k.1) q s (fires k.0 k.1).entry_is j z k.2)

  -- a child that comes, of a state below no destination, is a destination
  comes_here : {q s : ℕ} → Child c q s → ((t : Transition) → Mem t ts → under c t.destination q ≡ true → ⊥) → (k : Comes s) → s ≡ k.0.destination
  comes_here {q} {s} j n k = elim (ℕ_discrete s k.0.destination) [
    | yes e ↦ e
    | no d ↦ absurd (n k.0 k.1 (ap (under c k.0.destination) (sym j.parent_is) ∙ (under_down c tree k.0.destination s j.known d (below_to k.0 k.1 s k.2)).1))
  ]

  -- of two transitions one of whose homes is the other's
  same_home : (t u : Transition) → Mem t ts → Mem u ts → home_of c t ≡ home_of c u → t ≡ u
  same_home t u m n e = not_nested t u m n (ap (under c (home_of c t)) (sym e) ∙ under_refl c (home_of c t))

  -- the one child that stands
  record OneStands (q : ℕ) : Type 0 where
    child : ℕ
    is_child_lem : Child c q child
    stands : Stands child
    alone : (t : ℕ) → Child c q t → Stands t → t ≡ child

  one_moved : (q : ℕ) → q < size c → Stays q → (o : OneChild c p q) → (t : Transition) → Mem t ts → t.source ≡ o.child → OneStands q
  one_moved q h k o t m e = record { child = t.destination; is_child_lem = to_q; stands = inr (t, m, entered_top c tree marks t.destination (to_known t m) (fires t m).entry_is); alone = only }
    where
      home-q : home_of c t ≡ q
      home-q = ap (parent_of c) e ∙ o.is_child_lem.parent_is

      to_q : Child c q t.destination
      to_q = subst (λ (x : ℕ). Child c x t.destination) home-q (fires t m).to

      only : (x : ℕ) → Child c q x → Stands x → x ≡ t.destination
      only x j (inl w) = absurd (w.1 t m (ap (under c t.source) (o.alone x j w.0 ∙ sym e) ∙ under_refl c t.source))
      only x j (inr w) =
          let y = comes_here j (λ u n v. stays_clear q h k u n v) w in
          y ∙ ap (λ (z : Transition). z.destination) (same_home w.0 t w.1 m (sym (fires w.0 w.1).to.parent_is ∙ ap (parent_of c) (sym y) ∙ j.parent_is ∙ sym home-q))

  one_stayed : (q : ℕ) → q < size c → Stays q → (o : OneChild c p q) → ((t : Transition) → Mem t ts → o.child ≡ t.source → ⊥) → OneStands q
  one_stayed q h k o n = record { child = o.child; is_child_lem = o.is_child_lem; stands = inl (o.passes, child_clear o.is_child_lem k n); alone = only }
    where
      only : (x : ℕ) → Child c q x → Stands x → x ≡ o.child
      only x j (inl w) = o.alone x j w.0
      only x j (inr w) =
          let y = comes_here j (λ u i v. stays_clear q h k u i v) w in
          let f = fires w.0 w.1 in
          let home-q = sym f.to.parent_is ∙ ap (parent_of c) (sym y) ∙ j.parent_is in
          absurd (n w.0 w.1 (sym (o.alone w.0.source (subst (λ (z : ℕ). Child c z w.0.source) home-q f.from) f.from_active)))

  one_entered : (q : ℕ) → q < size c → sequential c q ≡ true → Comes q → OneStands q
  one_entered q h z k = record { child = r.0; is_child_lem = r.1; stands = inr (t, k.1, r.2); alone = only }
    where
      t : Transition
      t = k.0

      r : (s : ℕ) × Child c q s × (entered c t.destination t.entry s ≡ true) × ((x : ℕ) → Child c q x → entered c t.destination t.entry x ≡ true → x ≡ s)
      r = entered_one c tree marks t.destination (to_known t k.1) q (fires t k.1).entry_is h z k.2

      under_q : under c t.destination q ≡ true
      under_q = below_to t k.1 q k.2

      only : (x : ℕ) → Child c q x → Stands x → x ≡ r.0
      only x j (inl w) = absurd (stays_clear x j.known w t k.1 (under_transitive c tree t.destination q x j.known under_q (child_under c tree j)))
      only x j (inr w) = r.3 x j (subst (λ (u : Transition). entered c u.destination u.entry x ≡ true)
          (destinations_same w.0 t w.1 k.1 x j.known (below_to w.0 w.1 x w.2) (under_transitive c tree t.destination q x j.known under_q (child_under c tree j))) w.2)

  stands_one : (q : ℕ) → q < size c → sequential c q ≡ true → Stands q → OneStands q
  stands_one q h z (inr k) = one_entered q h z k
  stands_one q h z (inl k) = go (any (λ t. eqb t.source o.child) ts) refl
    where
      o : OneChild c p q
      o = active.one q h z k.0

      go : (b : Bool) → any (λ t. eqb t.source o.child) ts ≡ b → OneStands q
      go true e = let r = any_at (λ t. eqb t.source o.child) ts e in one_moved q h k o r.0 r.1 (eqb-true _ _ r.2)
      go false e = one_stayed q h k o (λ t m x. clash (any_by (λ t. eqb t.source o.child) m (eq-eqb t.source o.child (sym x))) e)

  -- a test that says who stands is a tree
  pub stands_tree : 0 < size c → (a : ℕ → Bool) → ((s : ℕ) → a s ≡ true → Stands s) → ((s : ℕ) → Stands s → a s ≡ true) → IsTree c (λ s. ltb s (size c) && a s)
  stands_tree some a f g = record {
    root = on c a some (g 0 stands_root);
    up = λ s h d e. on c a (omega (arith, tree.smaller s h d)) (g _ (stands_up s h d (f s (off c a s e))));
    every = λ q s j z e. on c a j.known (g s (stands_every q s j z (f q (off c a q e))));
    one = λ q h z e. let r = stands_one q h z (f q (off c a q e)) in
        record { child = r.child; is_child_lem = r.is_child_lem; passes = on c a r.is_child_lem.known (g _ r.stands); alone = λ t j w. r.alone t j (f t (off c a t w)) };
    none = λ s h. ap (λ (b : Bool). b && a s) (le-ltb s (size c) h);
  }

-- a step keeps the tree, if sources are active, and homes pairwise different and not nested
pub after_is_tree : (c : Chart) → Parents c → EntryMarks c → 0 < size c → size c ≤ 48 → (σ : Configuration) → is_tree c σ ≡ true → (ts : List Transition)
    → ((t : Transition) → Mem t ts → Fires c (is_active σ) t)
    → ((t u : Transition) → Mem t ts → Mem u ts → under c (home_of c t) (home_of c u) ≡ true → t ≡ u)
    → is_tree c (after c ts σ) ≡ true
unfolding active_after
after_is_tree c tree marks some few σ h ts fires apart =
    known_tree c (active_after c σ ts) (after c ts σ) (after_active c σ ts few)
    (stands_tree c tree marks (is_active σ) (tree_at c σ h) ts fires apart some (active_after c σ ts)
    (λ s e. ⊎_elim (λ k. inl (and_l (is_active σ s) _ k, λ t m u. clash u (not-true _ (all_at (λ t. not (under c t.source s)) ts (and_r (is_active σ s) _ k) m)))) (λ k. inr (any_at _ ts k))
    (or_cases (is_active σ s && all (λ t. not (under c t.source s)) ts) _ e))
    (λ s. ⊎_elim (λ k. or_l _ (both k.0 (all_by (λ t. not (under c t.source s)) ts (λ t m. not_yes (fails (under c t.source s) (k.1 t m))))))
    (λ k. or_r (is_active σ s && all (λ t. not (under c t.source s)) ts) (any_by (λ t. entered c t.destination t.entry s) k.1 k.2))))
