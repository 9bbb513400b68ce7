-- Laws of the tree of states.
use mathlib.Core.Path.{◌≡◌, refl, sym, ap, ◌∙◌, subst}
use mathlib.Core.Bool.{Bool, true, false, cond, not, ◌&&◌, ◌||◌, or-false}
use mathlib.Core.Logic.{◌⊎◌, inl, inr, ⊎_elim, ◌≢◌}
use mathlib.Core.List.Memᴰ.{cases_cons}
use mathlib.Core.List.Memᴰ.{not-nil}
use mathlib.Core.List.{List, [], ◌∷◌, Memᴰ as Mem}
use Prim.Native.Nat.{ℕ, zero, suc, ◌≤◌, ◌<◌}
use native.Mathlib.Omega.{arith}
use native.Mathlib.Decide.{ℕ_discrete, dec_lt}
use borrow.Author.Tests.{eqb-true, eqb-false, eq-eqb, ne_eqb, ltb-true, leb-true, not-true}
use lib.Dec.{ltb, eqb}
use lib.ListN.{length, get_or-eq_default}
use Rattle.lists.specs.Lists.{any, elem}
use Rattle.lists.proofs.Bools.{parts, clash, both, or_l, or_r, or_else}
use Rattle.lists.proofs.Lists.{all_at, elem_at, keep_at, keep_by, some_mem}
use Rattle.lists.proofs.Below.{below_at, below_by}
use Rattle.lists.proofs.Once.{Once, once_keep, once_below}
use Rattle.chart_records.specs.Chart.{Chart, State, state_at, states, parent_of, basic, sequential, parallel}
use Rattle.chart_records.specs.Tree.{up_from, path, under, children}
use Rattle.chart_records.specs.Rules.{parents}

-- how many states there are
abbrev pub size : Chart → ℕ
size c = length c.states

pub states_at : (c : Chart) {s : ℕ} → Mem s (states c) → s < size c
unfolding states
states_at c m = below_at _ m

pub states_by : (c : Chart) {s : ℕ} → s < size c → Mem s (states c)
unfolding states
states_by c h = below_by h

-- s is a child of m
pub record Child (c : Chart) (m s : ℕ) : Type 0 where
  pub known : s < size c
  pub below_root : s ≢ 0
  pub parent_is : parent_of c s ≡ m

-- a state's children
pub children_at : (c : Chart) (m : ℕ) {s : ℕ} → Mem s (children c m) → Child c m s
unfolding children
children_at c m {s} n =
    let k = keep_at _ (states c) n in
    let t = k.1 in
    record { known = states_at c k.0; below_root = eqb-false s 0 (not-true _ (search parts)); parent_is = eqb-true (parent_of c s) m (search parts) }

pub children_by : (c : Chart) {m s : ℕ} → Child c m s → Mem s (children c m)
unfolding children
children_by c {m} {s} k = keep_by _ (states c) (states_by c k.known) (both (ap not (ne_eqb s 0 k.below_root)) (eq-eqb (parent_of c s) m k.parent_is))

pub children_once : (c : Chart) (m : ℕ) → Once (children c m)
unfolding children states
children_once c m = once_keep _ _ (once_below _)

-- a state that is not the root is a child of its parent
pub own_child : (c : Chart) {s : ℕ} → s < size c → s ≢ 0 → Child c (parent_of c s) s
own_child c h d = record { known = h; below_root = d; parent_is = refl }

-- what is no state of the chart counts as basic and without a parent
pub unknown_parent : (c : Chart) (s : ℕ) → size c ≤ s → parent_of c s ≡ 255
unfolding parent_of state_at
unknown_parent c s h = ap (λ (x : State). x.parent) (get_or-eq_default c.states _ h)

pub unknown_basic : (c : Chart) (s : ℕ) → size c ≤ s → basic c s ≡ true
unfolding basic state_at
unknown_basic c s h = eq-eqb _ 0 (ap (λ (x : State). x.kind) (get_or-eq_default c.states _ h))

-- the kinds exclude each other
pub basic_not_parallel : (c : Chart) (s : ℕ) → basic c s ≡ true → parallel c s ≡ false
unfolding basic parallel
basic_not_parallel c s h = ne_eqb (state_at c s).kind 2 (omega (arith, eqb-true (state_at c s).kind 0 h))

pub sequential_not_parallel : (c : Chart) (s : ℕ) → sequential c s ≡ true → parallel c s ≡ false
unfolding sequential parallel
sequential_not_parallel c s h = ne_eqb (state_at c s).kind 2 (omega (arith, eqb-true (state_at c s).kind 1 h))

pub sequential_not_basic : (c : Chart) (s : ℕ) → sequential c s ≡ true → basic c s ≡ false
unfolding sequential basic
sequential_not_basic c s h = ne_eqb (state_at c s).kind 0 (omega (arith, eqb-true (state_at c s).kind 1 h))

pub parallel_not_basic : (c : Chart) (s : ℕ) → parallel c s ≡ true → basic c s ≡ false
unfolding parallel basic
parallel_not_basic c s h = ne_eqb (state_at c s).kind 0 (omega (arith, eqb-true (state_at c s).kind 2 h))

-- above the root there is nothing else
pub root_under : (c : Chart) (m : ℕ) → under c m 0 ≡ true → m ≡ 0
unfolding under path up_from elem any
root_under c m u = sym (eqb-true 0 m (sym (or-false (eqb 0 m)) ∙ u))

pub under_refl : (c : Chart) (s : ℕ) → under c s s ≡ true
unfolding under path up_from elem any
under_refl c s = or_l _ (eq-eqb s s refl)

-- what lies below a state of the chart is one
unknown_above : (c : Chart) → size c ≤ 255 → (n s : ℕ) → size c ≤ s → {x : ℕ} → Mem x (up_from n c s) → size c ≤ x
unfolding up_from
unknown_above c few zero s h m = absurd (not-nil m)
unknown_above c few (suc n) s h {x} m = ⊎_elim (λ e. omega arith) (λ k. go (eqb s 0) (λ j. unknown_above c few n (parent_of c s) (omega (arith, unknown_parent c s h)) j) k) (cases_cons m)
  where
    go : (b : Bool) → (Mem x (up_from n c (parent_of c s)) → size c ≤ x) → Mem x (cond b [] (up_from n c (parent_of c s))) → size c ≤ x
    go true f k = absurd (not-nil k)
    go false f k = f k

pub known_below : (c : Chart) → size c ≤ 255 → (m s : ℕ) → m < size c → under c m s ≡ true → s < size c
unfolding under path
known_below c few m s h u = elim (dec_lt s (size c)) [ yes l ↦ l | no l ↦ absurd (omega (arith, unknown_above c few (suc s) s (omega arith) (elem_at m (path c s) u))) ]

-- 5, as statements
pub record Parents (c : Chart) : Type 0 where
  pub smaller : (s : ℕ) → s < size c → s ≢ 0 → parent_of c s < s
  pub composite : (s : ℕ) → s < size c → s ≢ 0 → basic c (parent_of c s) ≡ false
  pub rootless : 0 < size c → parent_of c 0 ≡ 255
  pub fertile : (s : ℕ) → s < size c → basic c s ≡ false → (r : ℕ) × Child c s r

pub parents_at : (c : Chart) → parents c ≡ true → Parents c
unfolding parents
parents_at c rule =
    record {
      smaller = λ s h d. ltb-true _ _ (let k = up s h d in search parts);
      composite = λ s h d. not-true _ (let k = up s h d in search parts);
      rootless = λ h. eqb-true _ _ (let k = all_at _ _ rule (states_by c h) in search parts);
      fertile = λ s h b. let r = some_mem (children c s) (leb-true _ _ (or_else (basic c s) _ (let k = all_at _ _ rule (states_by c h) in search parts) b)) in (r.0, children_at c s r.1);
    }
  where
    up : (s : ℕ) → s < size c → s ≢ 0 → (ltb (parent_of c s) s && not (basic c (parent_of c s))) ≡ true
    up s h d = let k = rw (ne_eqb s 0 d) at (all_at _ _ rule (states_by c h)) in search parts

module _ (c : Chart) (tree : Parents c) where
  -- induction from the root down
  pub tree_induction : (P : ℕ → Type 0) → P 0 → ((s : ℕ) → s < size c → s ≢ 0 → P (parent_of c s) → P s) → (s : ℕ) → s < size c → P s
  tree_induction P root step s h = go s s (omega arith) h
    where
      go : (k s : ℕ) → s ≤ k → s < size c → P s
      go zero s l h = subst P (let z : 0 ≡ s = omega arith in z) root
      go (suc k) s l h = elim (ℕ_discrete s 0) [ yes e ↦ subst P (sym e) root | no d ↦ step s h d (go k (parent_of c s) (omega (arith, tree.smaller s h d)) (omega (arith, tree.smaller s h d))) ]

  pub parent_known : (s : ℕ) → s < size c → s ≢ 0 → parent_of c s < size c
  parent_known s h d = omega (arith, tree.smaller s h d)

  -- the way up
  enough : (n m s : ℕ) → s < size c → s < n → s < m → up_from n c s ≡ up_from m c s
  unfolding up_from
  enough zero m s h a b = absurd (omega arith)
  enough (suc n) zero s h a b = absurd (omega arith)
  enough (suc n) (suc m) s h a b = elim (ℕ_discrete s 0) [ yes e ↦ rw (eq-eqb s 0 e) | no d ↦ rw (ne_eqb s 0 d) (ap (λ (l : List ℕ). s ∷ l) (enough n m (parent_of c s) (parent_known s h d) (omega (arith, tree.smaller s h d)) (omega (arith, tree.smaller s h d)))) ]

  pub path_step : (s : ℕ) → s < size c → s ≢ 0 → path c s ≡ s ∷ path c (parent_of c s)
  unfolding path up_from
  path_step s h d = rw (ne_eqb s 0 d) (ap (λ (l : List ℕ). s ∷ l) (enough s (suc (parent_of c s)) (parent_of c s) (parent_known s h d) (tree.smaller s h d) (omega arith)))

  pub under_step : (m s : ℕ) → s < size c → s ≢ 0 → under c m s ≡ (eqb s m || under c m (parent_of c s))
  unfolding under elem any
  under_step m s h d = ap (elem m) (path_step s h d)

  pub under_up : (m s : ℕ) → s < size c → s ≢ 0 → under c m (parent_of c s) ≡ true → under c m s ≡ true
  under_up m s h d u = under_step m s h d ∙ or_r (eqb s m) u

  -- a state below another, and not it: so is its parent
  pub under_down : (m s : ℕ) → s < size c → s ≢ m → under c m s ≡ true → (s ≢ 0) × (under c m (parent_of c s) ≡ true)
  under_down m s h d u = elim (ℕ_discrete s 0) [ yes e ↦ absurd (d (e ∙ sym (root_under c m (ap (under c m) (sym e) ∙ u)))) | no z ↦ (z, or_else (eqb s m) _ (sym (under_step m s h z) ∙ u) (ne_eqb s m d)) ]

  pub under_le : (m s : ℕ) → s < size c → under c m s ≡ true → m ≤ s
  under_le m = tree_induction (λ s. under c m s ≡ true → m ≤ s) (λ u. omega (arith, root_under c m u))
      (λ s h d f u. elim (ℕ_discrete s m) [ yes e ↦ omega arith | no z ↦ omega (arith, f (under_down m s h z u).1, tree.smaller s h d) ])

  pub under_known : (m s : ℕ) → s < size c → under c m s ≡ true → m < size c
  under_known m s h u = omega (arith, under_le m s h u)

  pub under_transitive : (a b s : ℕ) → s < size c → under c a b ≡ true → under c b s ≡ true → under c a s ≡ true
  under_transitive a b s h u = tree_induction (λ s. under c b s ≡ true → under c a s ≡ true) (λ v. subst (λ (x : ℕ). under c a x ≡ true) (root_under c b v) u)
      (λ s h d f v. elim (ℕ_discrete s b) [ yes e ↦ subst (λ (x : ℕ). under c a x ≡ true) (sym e) u | no z ↦ under_up a s h d (f (under_down b s h z v).1) ]) s h

  pub under_antisymmetric : (a b : ℕ) → a < size c → b < size c → under c a b ≡ true → under c b a ≡ true → a ≡ b
  under_antisymmetric a b h k u v = omega (arith, under_le a b k u, under_le b a h v)

  -- of two states above one the one is above the other
  pub comparable : (a b s : ℕ) → s < size c → under c a s ≡ true → under c b s ≡ true → (under c a b ≡ true) ⊎ (under c b a ≡ true)
  comparable a b = tree_induction (λ s. under c a s ≡ true → under c b s ≡ true → (under c a b ≡ true) ⊎ (under c b a ≡ true))
      (λ u v. inl (subst (λ (x : ℕ). under c a x ≡ true) (sym (root_under c b v)) u))
      (λ s h d f u v. elim (ℕ_discrete s a) [ yes e ↦ inr (subst (λ (x : ℕ). under c b x ≡ true) e v) | no x ↦ elim (ℕ_discrete s b) [ yes e ↦ inl (subst (λ (x : ℕ). under c a x ≡ true) e u) | no y ↦ f (under_down a s h x u).1 (under_down b s h y v).1 ] ])

  -- every state lies below the root
  pub all_under_root : (s : ℕ) → s < size c → under c 0 s ≡ true
  all_under_root = tree_induction (λ s. under c 0 s ≡ true) (under_refl c 0) (λ s h d u. under_up 0 s h d u)

  -- a child lies below its parent
  pub child_under : {m s : ℕ} → Child c m s → under c m s ≡ true
  child_under {m} {s} k = under_up m s k.known k.below_root (subst (λ (x : ℕ). under c m x ≡ true) (sym k.parent_is) (under_refl c m))

  pub child_above : {m s : ℕ} → Child c m s → m < s
  child_above {m} {s} k = omega (arith, k.parent_is, tree.smaller s k.known k.below_root)

  -- the child of m that a state below m lies under
  pub child_towards : (m s : ℕ) → s < size c → under c m s ≡ true → s ≢ m → (r : ℕ) × Child c m r × (under c r s ≡ true)
  child_towards m = tree_induction (λ s. under c m s ≡ true → s ≢ m → (r : ℕ) × Child c m r × (under c r s ≡ true))
      (λ u d. absurd (d (sym (root_under c m u))))
      (λ s h d f u x. let v = (under_down m s h x u).1 in
      elim (ℕ_discrete (parent_of c s) m) [
        | yes e ↦ (s, record { known = h; below_root = d; parent_is = e }, under_refl c s)
        | no y ↦ let r = f v y in (r.0, r.1, under_up r.0 s h d r.2)
      ])

  -- below a basic state there is nothing else
  pub basic_under : (b s : ℕ) → s < size c → basic c b ≡ true → under c b s ≡ true → s ≡ b
  basic_under b s h z u = elim (ℕ_discrete s b) [
    | yes q ↦ q
    | no d ↦ let r = child_towards b s h u d in let k = r.1 in clash z (ap (basic c) (sym k.parent_is) ∙ tree.composite r.0 k.known k.below_root)
  ]

  -- children of one state share nothing below
  pub children_disjoint : {m r t : ℕ} (s : ℕ) → s < size c → Child c m r → Child c m t → under c r s ≡ true → under c t s ≡ true → r ≡ t
  children_disjoint {m} {r} {t} s h k l u v = ⊎_elim (λ e. lower k l e) (λ e. sym (lower l k e)) (comparable r t s h u v)
    where
      lower : {r t : ℕ} → Child c m r → Child c m t → under c r t ≡ true → r ≡ t
      lower {r} {t} k l e = elim (ℕ_discrete t r) [ yes q ↦ sym q | no d ↦ absurd (omega (arith, under_le r m (omega (arith, child_above k, k.known)) (subst (λ (x : ℕ). under c r x ≡ true) l.parent_is (under_down r t l.known d e).1), child_above k)) ]
