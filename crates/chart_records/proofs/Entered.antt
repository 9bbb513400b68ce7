-- Laws of the states that are entered together.
use mathlib.Core.Path.{◌≡◌, refl, sym, ap, ◌∙◌, subst}
use mathlib.Core.Bool.{Bool, true, false, ◌&&◌, ◌||◌}
use mathlib.Core.Logic.{◌⊎◌, inl, inr, ◌≢◌}
use mathlib.Core.List.{Memᴰ as Mem}
use Prim.Native.Nat.{ℕ, ◌≤◌, ◌<◌}
use native.Mathlib.Omega.{arith}
use native.Mathlib.Decide.{ℕ_discrete}
use borrow.Author.Tests.{eqb-true, eq-eqb, ne_eqb, leb-true}
use lib.Dec.{leb, eqb}
use Rattle.lists.specs.Lists.{has, all, below, keep, implies}
use Rattle.lists.proofs.Bools.{parts, clash, and_l, and_r, both, or_else, implies_at, implies_by}
use Rattle.lists.proofs.Lists.{all_at, all_by, keep_at, keep_by, one_mem, elem_at, elem_by}
use Rattle.lists.proofs.Below.{all_below}
use Rattle.chart_records.specs.Chart.{Chart, state_at, states, parent_of, basic, sequential, parallel}
use Rattle.chart_records.specs.Tree.{path, under, children, entered}
use Rattle.chart_records.specs.Rules.{entry_marks, marked}
use Rattle.chart_records.proofs.Tree.{size, states_at, states_by, Child, children_at, children_by, Parents, root_under, under_refl, under_known, under_transitive, under_antisymmetric, under_up, under_down, child_under, sequential_not_basic}

-- the states on the way up are those above
pub path_at : (c : Chart) (p s : ℕ) → Mem p (path c s) → under c p s ≡ true
unfolding under
path_at c p s m = elem_by p m

pub path_by : (c : Chart) (p s : ℕ) → under c p s ≡ true → Mem p (path c s)
unfolding under
path_by c p s u = elem_at p (path c s) u

-- entered by an entry: below d, with every state between marked
pub record Entered (c : Chart) (d e s : ℕ) : Type 0 where
  pub below : under c d s ≡ true
  pub marks : (p : ℕ) → under c d p ≡ true → under c p s ≡ true → has (state_at c p).entries e ≡ true

module _ (c : Chart) (d : ℕ) {e : ℕ} (some : e ≢ 255) where
  pub entered_at : (s : ℕ) → entered c d e s ≡ true → Entered c d e s
  unfolding entered
  entered_at s h =
      let k = rw (ne_eqb e 255 some) at h in
      record { below = search parts; marks = λ p u v. implies_at (under c d p) _ (all_at _ (path c s) (and_r (under c d s) _ k) (path_by c p s v)) u }

  pub entered_by : (s : ℕ) → Entered c d e s → entered c d e s ≡ true
  unfolding entered
  entered_by s h = rw (ne_eqb e 255 some) (both h.below (all_by _ (path c s) (λ p m. implies_by (under c d p) _ (λ u. h.marks p u (path_at c p s m)))))

-- a test of every state that is entered
abbrev pub all_entered : Chart → ℕ → ℕ → (ℕ → Bool) → Bool
all_entered c d e f = all (λ s. implies (entered c d e s) (f s)) (states c)

pub all_entered_at : (c : Chart) (d e : ℕ) (f : ℕ → Bool) → all_entered c d e f ≡ true → (s : ℕ) → s < size c → entered c d e s ≡ true → f s ≡ true
all_entered_at c d e f h s k a = implies_at (entered c d e s) (f s) (all_at _ (states c) h (states_by c k)) a

pub all_entered_by : (c : Chart) (d e : ℕ) (f : ℕ → Bool) → ((s : ℕ) → s < size c → entered c d e s ≡ true → f s ≡ true) → all_entered c d e f ≡ true
all_entered_by c d e f g = all_by _ (states c) (λ s m. implies_by (entered c d e s) (f s) (g s (states_at c m)))

-- 8, as statements
pub record EntryMarks (c : Chart) : Type 0 where
  pub root : (state_at c 0).entries ≡ 1
  pub shared : (s : ℕ) → s < size c → s ≢ 0 → parallel c (parent_of c s) ≡ true → (state_at c s).entries ≡ (state_at c (parent_of c s)).entries
  pub most : (s e : ℕ) → s < size c → sequential c s ≡ true → e < c.entries → marked c s e ≤ 1
  pub least : (s e : ℕ) → s < size c → sequential c s ≡ true → e < c.entries → has (state_at c s).entries e ≡ true → 1 ≤ marked c s e

pub entry_marks_at : (c : Chart) → entry_marks c ≡ true → EntryMarks c
unfolding entry_marks
entry_marks_at c rule =
    record {
      root = eqb-true (state_at c 0).entries 1 (search parts);
      shared = λ s h d p. eqb-true _ _ (implies_at (parallel c (parent_of c s)) _ (or_else (eqb s 0) _ (and_l _ (implies (sequential c s) _) (each s h)) (ne_eqb s 0 d)) p);
      most = λ s e h q l. leb-true (marked c s e) 1 (let k = counts s e h q l in search parts);
      least = λ s e h q l m. leb-true _ _ (implies_at (has (state_at c s).entries e) _ (and_r (leb (marked c s e) 1) _ (counts s e h q l)) m);
    }
  where
    each : (s : ℕ) → s < size c → ((eqb s 0 || implies (parallel c (parent_of c s)) (eqb (state_at c s).entries (state_at c (parent_of c s)).entries))
        && implies (sequential c s) (all (λ e. leb (marked c s e) 1 && implies (has (state_at c s).entries e) (leb 1 (marked c s e))) (below c.entries))) ≡ true
    each s h = all_at _ _ (and_r (eqb (state_at c 0).entries 1) _ rule) (states_by c h)

    counts : (s e : ℕ) → s < size c → sequential c s ≡ true → e < c.entries → (leb (marked c s e) 1 && implies (has (state_at c s).entries e) (leb 1 (marked c s e))) ≡ true
    counts s e h q l = all_below _ _ (implies_at (sequential c s) _ (and_r (eqb s 0 || implies (parallel c (parent_of c s)) (eqb (state_at c s).entries (state_at c (parent_of c s)).entries)) _ (each s h)) q) e l

-- the one child of a sequential state that is marked with an entry of the state
pub marked_one : (c : Chart) → EntryMarks c → (q e : ℕ) → q < size c → sequential c q ≡ true → e < c.entries → has (state_at c q).entries e ≡ true
    → (s : ℕ) × Child c q s × (has (state_at c s).entries e ≡ true) × ((t : ℕ) → Child c q t → has (state_at c t).entries e ≡ true → t ≡ s)
unfolding marked
marked_one c marks8 q e k p l m =
    let r = one_mem (keep (λ s. has (state_at c s).entries e) (children c q)) (omega (arith, marks8.most q e k p l, marks8.least q e k p l m)) in
    let a = keep_at (λ s. has (state_at c s).entries e) (children c q) r.1 in
    (r.0, children_at c q a.0, a.1, λ t j n. r.2 t (keep_by _ (children c q) (children_by c j) n))

-- how d is entered: a basic state without an entry, any other by an entry that it is marked with
abbrev pub Entry : Chart → ℕ → ℕ → Type 0
Entry c d e = ((basic c d ≡ true) × (e ≡ 255)) ⊎ ((e ≢ 255) × (e < c.entries) × (has (state_at c d).entries e ≡ true))

-- a basic state is entered alone
pub entered_alone : (c : Chart) (d e s : ℕ) → e ≡ 255 → entered c d e s ≡ eqb s d
unfolding entered
entered_alone c d e s h = rw (eq-eqb e 255 h)

module _ (c : Chart) (tree : Parents c) (marks8 : EntryMarks c) (d : ℕ) (known : d < size c) {e : ℕ} where
  pub entered_top : Entry c d e → entered c d e d ≡ true
  entered_top (inl b) = entered_alone c d e d b.1 ∙ eq-eqb d d refl
  entered_top (inr m) = entered_by c d m.0 d (record { below = under_refl c d; marks = λ p u v. subst (λ (x : ℕ). has (state_at c x).entries e ≡ true) (under_antisymmetric c tree d p known (under_known c tree p d known v) u v) m.2 })

  pub entered_under : (s : ℕ) → Entry c d e → entered c d e s ≡ true → under c d s ≡ true
  entered_under s (inl b) h = subst (λ (x : ℕ). under c d x ≡ true) (sym (eqb-true s d (sym (entered_alone c d e s b.1) ∙ h))) (under_refl c d)
  entered_under s (inr m) h = (entered_at c d m.0 s h).below

  -- not the root, unless it is d
  pub entered_below_root : (s : ℕ) → Entry c d e → d ≢ 0 → entered c d e s ≡ true → s ≢ 0
  entered_below_root s y z h k = z (root_under c d (ap (under c d) (sym k) ∙ entered_under s y h))

  -- with a state other than d its parent
  pub entered_parent : (s : ℕ) → Entry c d e → s < size c → s ≢ d → entered c d e s ≡ true → (s ≢ 0) × (entered c d e (parent_of c s) ≡ true)
  entered_parent s (inl b) k x h = absurd (x (eqb-true s d (sym (entered_alone c d e s b.1) ∙ h)))
  entered_parent s (inr m) k x h =
      let r = entered_at c d m.0 s h in
      let u = under_down c tree d s k x r.below in
      (u.0, entered_by c d m.0 (parent_of c s) (record { below = u.1; marks = λ p v w. r.marks p v (under_up c tree p s k u.0 w) }))

  alone : (q s : ℕ) {X : Type 0} → basic c d ≡ true → e ≡ 255 → Child c q s → entered c d e q ≡ true → X
  alone q s b n k h = clash b (subst (λ (x : ℕ). basic c x ≡ false) (k.parent_is ∙ eqb-true q d (sym (entered_alone c d e q n) ∙ h)) (tree.composite s k.known k.below_root))

  -- of an entered state's children those that are marked
  pub entered_child : (q s : ℕ) → Entry c d e → Child c q s → entered c d e q ≡ true → has (state_at c s).entries e ≡ true → entered c d e s ≡ true
  entered_child q s (inl b) k h z = alone q s b.0 b.1 k h
  entered_child q s (inr m) k h z =
      let r = entered_at c d m.0 q h in
      entered_by c d m.0 s (record {
        below = under_transitive c tree d q s k.known r.below (child_under c tree k);
        marks = λ p u v. elim (ℕ_discrete s p) [
          | yes g ↦ subst (λ (x : ℕ). has (state_at c x).entries e ≡ true) g z
          | no n ↦ r.marks p u (subst (λ (x : ℕ). under c p x ≡ true) k.parent_is (under_down c tree p s k.known n v).1)
        ];
      })

  pub entered_marked : (s : ℕ) → e ≢ 255 → entered c d e s ≡ true → has (state_at c s).entries e ≡ true
  entered_marked s n h = let r = entered_at c d n s h in r.marks s r.below (under_refl c s)

  -- of an entered parallel state every child
  pub entered_all : (q s : ℕ) → Entry c d e → Child c q s → parallel c q ≡ true → entered c d e q ≡ true → entered c d e s ≡ true
  entered_all q s (inl b) k p h = alone q s b.0 b.1 k h
  entered_all q s (inr m) k p h = entered_child q s (inr m) k h
      (ap (λ (x : ℕ). has x e) (marks8.shared s k.known k.below_root (ap (parallel c) k.parent_is ∙ p) ∙ ap (λ (x : ℕ). (state_at c x).entries) k.parent_is) ∙ entered_marked q m.0 h)

  -- of an entered sequential state one child, the one that is marked
  pub entered_one : (q : ℕ) → Entry c d e → q < size c → sequential c q ≡ true → entered c d e q ≡ true
      → (s : ℕ) × Child c q s × (entered c d e s ≡ true) × ((t : ℕ) → Child c q t → entered c d e t ≡ true → t ≡ s)
  entered_one q (inl b) k p h = clash (subst (λ (x : ℕ). basic c x ≡ true) (sym (eqb-true q d (sym (entered_alone c d e q b.1) ∙ h))) b.0) (sequential_not_basic c q p)
  entered_one q (inr m) k p h =
      let r = marked_one c marks8 q e k p m.1 (entered_marked q m.0 h) in
      (r.0, r.1, entered_child q r.0 (inr m) r.1 h r.2, λ t j g. r.3 t j (entered_marked t m.0 g))
