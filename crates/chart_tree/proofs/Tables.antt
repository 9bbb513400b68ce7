-- Laws of the tables of states: loops over the states, sets of them, and the way up.
use mathlib.Core.Path.{◌≡◌, refl, sym, ap, ◌∙◌, subst}
use mathlib.Core.Bool.{Bool, true, false, cond, ◌&&◌, ◌||◌, and-false, or-false, or_assoc, and-or_distrib_left}
use mathlib.Core.Logic.{◌≢◌}
use mathlib.Core.List.{List, map}
use Prim.Native.Nat.{ℕ, zero, suc, ◌+◌, ◌≤◌, ◌<◌}
use native.Mathlib.Omega.{arith}
use native.Mathlib.Decide.{ℕ_discrete, dec_lt}
use borrow.Author.Tests.{eq-eqb, ne_eqb, lt-ltb, le-ltb}
use lib.Dec.{ltb, eqb}
use lib.ListN.{length, get_or, set, replicate, length-set, length-map, get_or-eq_default}
use lib.Seq.{get_or-set_same, get_or-set_other}
use Rattle.lists.specs.Lists.{below}
use Rattle.lists.proofs.Bools.{fails, both, or_r, cond_yes, cond_no}
use Rattle.lists.proofs.Below.{length_below, get_d_mapped}
use Rattle.lists.proofs.Columns.{made_by_lem}
use Rattle.chart_records.specs.Chart.{Chart, State, state_at, parent_of}
use Rattle.chart_records.specs.Tree.{under}
use Rattle.chart_records.specs.Rules.{parents}
use Rattle.chart_tree.specs.Table.{Column, ColumnTo, Begun, Tabled, Rooted, adding, passing}
use Rattle.chart_tree.specs.declared.table.Tree.{Tree}
use Rattle.chart_records.proofs.Tree.{size, Parents, parents_at, under_refl, under_step, under_le}

-- sets of states
module _ (w : ℕ) (c : Chart) where
  pub length_adding : (f : ℕ → Bool) (l : List Bool) → length (adding w c f l) ≡ w
  unfolding adding
  length_adding f l = length-map (below w) _ ∙ length_below w

  pub get_d_adding : (f : ℕ → Bool) (l : List Bool) (s : ℕ) → s < w → get_or (adding w c f l) s false ≡ (get_or l s false || (ltb s (size c) && f s))
  unfolding adding
  get_d_adding f l s h = get_d_mapped _ w s false h

  -- by the states of the chart
  known_same : (f g : ℕ → Bool) (s : ℕ) → (s < size c → f s ≡ g s) → (ltb s (size c) && f s) ≡ (ltb s (size c) && g s)
  known_same f g s e = elim (dec_lt s (size c)) [ yes h ↦ ap (λ (b : Bool). ltb s (size c) && b) (e h) | no h ↦ rw (le-ltb s (size c) (omega arith)) ]

  pub adding_by : (f : ℕ → Bool) (l r : List Bool) → length r ≡ w → ((s : ℕ) → s < w → get_or r s false ≡ (get_or l s false || (ltb s (size c) && f s))) → r ≡ adding w c f l
  unfolding adding
  adding_by f l r e g = made_by_lem w _ r e g

  pub adding_same : (f g : ℕ → Bool) (l : List Bool) → ((s : ℕ) → s < size c → f s ≡ g s) → adding w c f l ≡ adding w c g l
  adding_same f g l e = adding_by g l _ (length_adding f l) (λ s h. get_d_adding f l s h ∙ ap (λ (b : Bool). get_or l s false || b) (known_same f g s (e s)))

  pub adding_none : (f : ℕ → Bool) (l : List Bool) → length l ≡ w → ((s : ℕ) → s < size c → f s ≡ false) → l ≡ adding w c f l
  adding_none f l e g = adding_by f l l e (λ s h. sym (ap (λ (b : Bool). get_or l s false || b) (known_same f (λ s. false) s (g s) ∙ and-false (ltb s (size c))) ∙ or-false (get_or l s false)))

  pub adding_more : (f g : ℕ → Bool) (l : List Bool) → adding w c g (adding w c f l) ≡ adding w c (λ s. f s || g s) l
  adding_more f g l =
      adding_by _ l _ (length_adding g _) (λ s h. get_d_adding g _ s h ∙ ap (λ (b : Bool). b || (ltb s (size c) && g s)) (get_d_adding f l s h)
      ∙ or_assoc (get_or l s false) (ltb s (size c) && f s) (ltb s (size c) && g s)
      ∙ ap (λ (b : Bool). get_or l s false || b) (sym (and-or_distrib_left (ltb s (size c)) (f s) (g s))))

  pub adding_one : (k : ℕ) (l : List Bool) → length l ≡ w → k < w → k < size c → set l k true ≡ adding w c (λ s. eqb s k) l
  adding_one k l e h j = adding_by _ l _ (length-set l k true ∙ e) (λ s i. elim (ℕ_discrete s k) [
    | yes q ↦ ap (λ (x : ℕ). get_or (set l k true) x false) q ∙ get_or-set_same l k true false (omega arith) ∙ sym (or_r (get_or l s false) (both (lt-ltb s (size c) (omega arith)) (eq-eqb s k q)))
    | no q ↦ get_or-set_other l k s true false q ∙ sym (ap (λ (b : Bool). get_or l s false || b) (known_same (λ s. eqb s k) (λ s. false) s (λ z. ne_eqb s k q) ∙ and-false (ltb s (size c))) ∙ or-false (get_or l s false))
  ])

-- the way up
module _ (c : Chart) (above : List ℕ) (r : Rooted c above) where
  tree : Parents c
  tree = parents_at c r.rule

  pub parent_at : (s : ℕ) → s < 48 → get_or above s 0 ≡ parent_of c s
  unfolding parent_of
  parent_at s h = r.parent s h

  known_at : (s : ℕ) → s < size c → get_or above s 0 ≡ parent_of c s
  known_at s h = parent_at s (omega (arith, r.few))

  pub climbs : (m x : ℕ) → x < size c → m < x → (get_or above x 0 < x) × (under c m x ≡ under c m (get_or above x 0))
  climbs m x h l =
      let d : x ≢ 0 = λ e. omega arith in
      (omega (arith, known_at x h, tree.smaller x h d), under_step c tree m x h d ∙ rw (ne_eqb x m (λ e. omega arith)) (ap (under c m) (sym (known_at x h))))

  pub climbed : (m x : ℕ) → x < size c → x ≤ m → under c m x ≡ eqb x m
  climbed m x h l = elim (ℕ_discrete x m) [
    | yes e ↦ subst (λ (y : ℕ). under c m y ≡ true) (sym e) (under_refl c m) ∙ sym (eq-eqb x m e)
    | no d ↦ fails (under c m x) (λ u. omega (arith, under_le c tree m x h u)) ∙ sym (ne_eqb x m d)
  ]

-- the states that pass a test
module _ (w : ℕ) (c : Chart) (f : ℕ → Bool) where
  pub length_passing : length (passing w c f) ≡ w
  unfolding passing
  length_passing = length-map (below w) _ ∙ length_below w

  pub get_d_passing : (s : ℕ) → s < w → get_or (passing w c f) s false ≡ (ltb s (size c) && f s)
  unfolding passing
  get_d_passing s h = get_d_mapped _ w s false h

  -- what is left, and what is entered
  pub adding_passing : (g : ℕ → Bool) → adding w c g (passing w c f) ≡ map (λ s. ltb s (size c) && (f s || g s)) (below w)
  adding_passing g = made_by_lem w _ _ (length_adding w c g _) (λ s h. get_d_adding w c g _ s h ∙ ap (λ (b : Bool). b || (ltb s (size c) && g s)) (get_d_passing s h) ∙ sym (and-or_distrib_left (ltb s (size c)) (f s) (g s)))

-- a set that is empty at first
pub adding_empty : (w : ℕ) (c : Chart) (f : ℕ → Bool) → adding w c f (replicate w false) ≡ map (λ s. ltb s (size c) && f s) (below w)
adding_empty w c f = made_by_lem w _ _ (length_adding w c f _) (λ s h. get_d_adding w c f _ s h ∙ ap (λ (b : Bool). b || (ltb s (size c) && f s)) (empty w s))
  where
    empty : (w s : ℕ) → get_or (replicate w false) s false ≡ false
    empty zero s = refl
    empty (suc w) zero = refl
    empty (suc w) (suc s) = empty w s

-- a chart's own tables
pub rooted_of : (c : Chart) (t : Tree) → Tabled c t → parents c ≡ true → Rooted c t.parents
rooted_of c t T r = record { few = T.few; parent = T.parent; rule = r }

-- tables that are filled state by state
module _ (c : Chart) (d : ℕ) (field : State → ℕ) where
  pub column_none : ColumnTo 0 d field c (replicate 48 d)
  column_none s h = go 48 s h ∙ rw (le-ltb s 0 (omega arith))
    where
      go : (w s : ℕ) → s < w → get_or (replicate w d) s 0 ≡ d
      go zero s h = absurd (omega arith)
      go (suc w) zero h = refl
      go (suc w) (suc s) h = go w s (omega arith)

  pub column_more : (n v : ℕ) (l : List ℕ) → ColumnTo n d field c l → length l ≡ 48 → n < 48 → v ≡ field (state_at c n) → ColumnTo (n + 1) d field c (set l n v)
  column_more n v l f e h q s k = elim (ℕ_discrete s n) [
    | yes z ↦ ap (λ (x : ℕ). get_or (set l n v) x 0) z ∙ get_or-set_same l n v 0 (omega arith) ∙ q ∙ ap (λ (x : ℕ). field (state_at c x)) (sym z) ∙ sym (cond_yes _ d (lt-ltb s (n + 1) (omega arith)))
    | no z ↦ get_or-set_other l n s v 0 z ∙ f s k ∙ ap (λ (b : Bool). cond b (field (state_at c s)) d) (other s z)
  ]
    where
      other : (s : ℕ) → s ≢ n → ltb s n ≡ ltb s (n + 1)
      other s z = elim (dec_lt s n) [
        | yes y ↦ lt-ltb s n y ∙ sym (lt-ltb s (n + 1) (omega arith))
        | no y ↦ le-ltb s n (omega arith) ∙ sym (le-ltb s (n + 1) (omega arith))
      ]

  column_all : (n : ℕ) (l : List ℕ) → ((s : ℕ) → size c ≤ s → field (state_at c s) ≡ d) → size c ≤ n → ColumnTo n d field c l → Column field c l
  column_all n l past h f s k = f s k ∙ elim (dec_lt s n) [ yes y ↦ cond_yes _ d (lt-ltb s n y) | no y ↦ cond_no (field (state_at c s)) d (le-ltb s n (omega arith)) ∙ sym (past s (omega arith)) ]

-- with every state they hold the chart's
pub tabled : (c : Chart) (t : Tree) (n : ℕ) → Begun c t n → size c ≤ n → Tabled c t
unfolding state_at
tabled c t n B h = record {
  count = B.count;
  few = B.few;
  parent = column_all c 255 (λ x. x.parent) n t.parents (past (λ x. x.parent)) h B.parent;
  kind = column_all c 0 (λ x. x.kind) n t.kinds (past (λ x. x.kind)) h B.kind;
  entries = column_all c 0 (λ x. x.entries) n t.entries (past (λ x. x.entries)) h B.entries;
  exits = column_all c 0 (λ x. x.exits) n t.exits (past (λ x. x.exits)) h B.exits;
}
  where
    past : (f : State → ℕ) {d : State} (s : ℕ) → size c ≤ s → f (get_or c.states s d) ≡ f d
    past f s k = ap f (get_or-eq_default c.states _ k)
