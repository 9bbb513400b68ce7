-- What entering a state enters: the state, and what its marked children enter.
use mathlib.Core.Path.{◌≡◌, refl, sym, ap, ◌∙◌, subst}
use mathlib.Core.Bool.{Bool, true, false, ◌&&◌, ◌||◌, or-false}
use mathlib.Core.Logic.{⊎_elim, ◌≢◌}
use mathlib.Core.List.{List}
use Prim.Native.Nat.{ℕ, ◌+◌, ◌≤◌, ◌<◌}
use native.Mathlib.Omega.{arith}
use native.Mathlib.Decide.{ℕ_discrete, dec_lt}
use borrow.Author.Tests.{eqb-true, eqb-false, eq-eqb, ne_eqb, lt-ltb, le-ltb, ltb-true}
use lib.Dec.{ltb, eqb}
use lib.ListN.{length, get_or, set}
use Rattle.lists.specs.Lists.{has, any, below}
use Rattle.lists.proofs.Bools.{clash, fails, both, and_l, and_r, or_l, or_r, or_cases, same}
use Rattle.lists.proofs.Lists.{none_any, any_more}
use Rattle.lists.proofs.Below.{below_more, below_at, any_below, below_any}
use Rattle.chart_records.specs.Chart.{Chart, state_at, parent_of, basic, parallel}
use Rattle.chart_records.specs.Tree.{under, entered}
use Rattle.chart_records.specs.Rules.{parents, entry_marks}
use Rattle.chart_tree.specs.Table.{Tabled, Enters, adding}
use Rattle.chart_tree.specs.declared.table.Tree.{Tree}
use Rattle.chart_records.proofs.Tree.{size, Parents, parents_at, Child, unknown_parent, under_refl, under_down, under_known, under_transitive, under_antisymmetric, comparable, child_under, child_above, child_towards}
use Rattle.chart_records.proofs.Entered.{entered_at, entered_by, entered_alone, entry_marks_at}
use Rattle.chart_tree.proofs.Tables.{length_adding, adding_same, adding_none, adding_more, adding_one, parent_at, rooted_of}

-- entering s by e enters its child k: one that is marked
unfoldable pub opens : Chart → ℕ → ℕ → ℕ → Bool
opens c e s k = ltb s k && (eqb (parent_of c k) s && has (state_at c k).entries e)

-- what the children before x enter
unfoldable pub children_enter : Chart → ℕ → ℕ → ℕ → ℕ → Bool
children_enter c e s x y = any (λ k. opens c e s k && entered c k e y) (below x)

module _ (c : Chart) (above kinds marks : List ℕ) (e s : ℕ) (E : Enters c above kinds marks e s) where
  tree_of : Parents c
  tree_of = parents_at c E.rooted.rule

  some_entry : e ≢ 255
  some_entry = eqb-false e 255 E.some

  -- by the tables
  pub opens_marked : (k : ℕ) {b : Bool} → s < k → k < 48 → b ≡ (eqb (get_or above k 0) s && has (get_or marks k 0) e) → opens c e s k ≡ b
  unfolding opens
  opens_marked k l h q = rw (lt-ltb s k l, sym (parent_at c above E.rooted k h), sym (E.entries k h)) (sym q)

  child_of : (k : ℕ) → s < k → parent_of c k ≡ s → Child c s k
  child_of k l p = elim (dec_lt k (size c)) [
    | yes h ↦ record { known = h; below_root = λ z. omega arith; parent_is = p }
    | no h ↦ absurd (omega (arith, unknown_parent c k (omega arith), E.known, E.rooted.few))
  ]

  pub opens_every : (k : ℕ) {b : Bool} → parallel c s ≡ true → s < k → k < 48 → b ≡ eqb (get_or above k 0) s → opens c e s k ≡ b
  unfolding opens
  opens_every k p l h q = rw (lt-ltb s k l) (go (eqb (parent_of c k) s) refl ∙ sym (q ∙ ap (λ (x : ℕ). eqb x s) (parent_at c above E.rooted k h)))
    where
      go : (b : Bool) → eqb (parent_of c k) s ≡ b → (b && has (state_at c k).entries e) ≡ b
      go false z = refl
      go true z =
          let d = child_of k l (eqb-true _ _ z) in
          ap (λ (x : ℕ). has x e) ((entry_marks_at c E.rule).shared k d.known d.below_root (ap (parallel c) d.parent_is ∙ p) ∙ ap (λ (x : ℕ). (state_at c x).entries) d.parent_is) ∙ E.marked

  opens_child : (k : ℕ) → opens c e s k ≡ true → Child c s k
  unfolding opens
  opens_child k o = child_of k (ltb-true s k (and_l (ltb s k) _ o)) (eqb-true _ _ (and_l (eqb (parent_of c k) s) _ (and_r (ltb s k) _ o)))

  opens_mark : (k : ℕ) → opens c e s k ≡ true → has (state_at c k).entries e ≡ true
  unfolding opens
  opens_mark k o = and_r (eqb (parent_of c k) s) _ (and_r (ltb s k) _ o)

  opens_by : (k : ℕ) → Child c s k → has (state_at c k).entries e ≡ true → opens c e s k ≡ true
  unfolding opens
  opens_by k d m = both (lt-ltb s k (child_above c tree_of d)) (both (eq-eqb (parent_of c k) s d.parent_is) m)

  pub enters_child : (k : ℕ) → opens c e s k ≡ true → Enters c above kinds marks e k
  enters_child k o = record {
    rooted = E.rooted;
    kind = E.kind;
    entries = E.entries;
    rule = E.rule;
    known = (opens_child k o).known;
    some = E.some;
    marked = opens_mark k o;
  }

  pub kind_basic : (k : ℕ) → k < 48 → get_or kinds k 0 ≡ 0 → basic c k ≡ true
  unfolding basic
  kind_basic k h z = eq-eqb _ 0 (sym (E.kind k h) ∙ z)

  pub kind_parallel : (k : ℕ) → k < 48 → get_or kinds k 0 ≡ 2 → parallel c k ≡ true
  unfolding parallel
  kind_parallel k h z = eq-eqb _ 2 (sym (E.kind k h) ∙ z)

  -- what s enters: s, and what its marked children enter
  enters_itself : entered c s e s ≡ true
  enters_itself = entered_by c s some_entry s (record { below = under_refl c s; marks = λ p u v. subst (λ (x : ℕ). has (state_at c x).entries e ≡ true) (under_antisymmetric c tree_of s p E.known (under_known c tree_of p s E.known v) u v) E.marked })

  enters_below : (k y : ℕ) → y < size c → opens c e s k ≡ true → entered c k e y ≡ true → entered c s e y ≡ true
  enters_below k y h o f =
      let d = opens_child k o in
      let r = entered_at c k some_entry y f in
      entered_by c s some_entry y (record {
        below = under_transitive c tree_of s k y h (child_under c tree_of d) r.below;
        marks = λ p u v. ⊎_elim (λ w. r.marks p w v) (λ w. elim (ℕ_discrete k p) [
          | yes q ↦ subst (λ (x : ℕ). has (state_at c x).entries e ≡ true) q (opens_mark k o)
          | no q ↦ subst (λ (x : ℕ). has (state_at c x).entries e ≡ true)
              (under_antisymmetric c tree_of s p E.known (under_known c tree_of p y h v) u (subst (λ (x : ℕ). under c p x ≡ true) d.parent_is (under_down c tree_of p k d.known q w).1)) E.marked
        ]) (comparable c tree_of k p y h r.below v);
      })

  enters_by_lem : (y : ℕ) → y < size c → y ≢ s → entered c s e y ≡ true → (k : ℕ) × (opens c e s k ≡ true) × (entered c k e y ≡ true)
  enters_by_lem y h n f =
      let r = entered_at c s some_entry y f in
      let t = child_towards c tree_of s y h r.below n in
      let k = t.0 in (
        k,
        opens_by k t.1 (r.marks k (child_under c tree_of t.1) t.2),
        entered_by c k some_entry y (record { below = t.2; marks = λ p u v. r.marks p (under_transitive c tree_of s k p (under_known c tree_of p y h v) (child_under c tree_of t.1) u) v }),
      )

  enters_all : (x y : ℕ) → size c ≤ x → y < size c → (eqb y s || children_enter c e s x y) ≡ entered c s e y
  unfolding children_enter
  enters_all x y l h = same _ (entered c s e y)
      (λ q. ⊎_elim (λ p. subst (λ (z : ℕ). entered c s e z ≡ true) (sym (eqb-true y s p)) enters_itself)
      (λ p. let r = any_below (λ k. opens c e s k && entered c k e y) x p in enters_below r.0 y h (and_l (opens c e s r.0) _ r.2) (and_r (opens c e s r.0) _ r.2)) (or_cases (eqb y s) _ q))
      (λ q. elim (ℕ_discrete y s) [
        | yes p ↦ or_l _ (eq-eqb y s p)
        | no p ↦ let r = enters_by_lem y h p q in or_r (eqb y s) (below_any (λ k. opens c e s k && entered c k e y) x r.0 (omega (arith, (opens_child r.0 r.1).known)) (both r.1 r.2))
      ])

  -- a basic state enters itself alone
  pub enters_basic : basic c s ≡ true → (y : ℕ) → y < size c → entered c s e y ≡ eqb y s
  unfolding children_enter
  enters_basic b y h = sym (enters_all (size c) y (omega arith) h) ∙ ap (λ (z : Bool). eqb y s || z)
      (none_any (λ k. opens c e s k && entered c k e y) (below (size c)) (λ k m. rw (fails (opens c e s k) (λ o. let d = opens_child k o in clash b (subst (λ (x : ℕ). basic c x ≡ false) d.parent_is (tree_of.composite k d.known d.below_root)))))) ∙ or-false (eqb y s)

  -- one turn of the loop over the children
  children_more : (x y : ℕ) → children_enter c e s (x + 1) y ≡ (children_enter c e s x y || (opens c e s x && entered c x e y))
  unfolding children_enter
  children_more x y = ap (any (λ k. opens c e s k && entered c k e y)) (below_more x) ∙ any_more (λ k. opens c e s k && entered c k e y) (below x) x

  children_none : (y : ℕ) → children_enter c e s (s + 1) y ≡ false
  unfolding children_enter opens
  children_none y = none_any _ (below (s + 1)) (λ k m. rw (le-ltb s k (omega (arith, below_at (s + 1) m))))

  -- the set as it grows
  module _ (w : ℕ) (fits : size c ≤ w) where
    pub grown_none : (l : List Bool) → length l ≡ w → l ≡ adding w c (children_enter c e s (s + 1)) l
    grown_none l h = adding_none w c _ l h (λ y k. children_none y)

    pub grown_skip : (x : ℕ) (first l : List Bool) → l ≡ adding w c (children_enter c e s x) first → opens c e s x ≡ false → l ≡ adding w c (children_enter c e s (x + 1)) first
    grown_skip x first l g o = g ∙ adding_same w c _ _ first (λ y h. sym (children_more x y ∙ rw o (or-false (children_enter c e s x y))))

    pub grown_more : (x : ℕ) (first l next : List Bool) → l ≡ adding w c (children_enter c e s x) first → opens c e s x ≡ true → next ≡ adding w c (entered c x e) l → next ≡ adding w c (children_enter c e s (x + 1)) first
    grown_more x first l next g o n = n ∙ ap (adding w c (entered c x e)) g ∙ adding_more w c _ _ first ∙ adding_same w c _ _ first (λ y h. sym (children_more x y ∙ rw o))

    pub grown_all : (x : ℕ) (l out : List Bool) → length l ≡ w → size c ≤ x → out ≡ adding w c (children_enter c e s x) (set l s true) → out ≡ adding w c (entered c s e) l
    grown_all x l out h k g =
        g ∙ ap (adding w c (children_enter c e s x)) (adding_one w c s l h (omega (arith, E.known)) E.known) ∙ adding_more w c _ _ l ∙ adding_same w c _ _ l (λ y j. enters_all x y k j)

    grown_basic : (l : List Bool) → length l ≡ w → basic c s ≡ true → set l s true ≡ adding w c (entered c s e) l
    grown_basic l h b = adding_one w c s l h (omega (arith, E.known)) E.known ∙ adding_same w c _ _ l (λ y j. sym (enters_basic b y j))

-- a basic child
pub grown_leaf : (c : Chart) (above kinds marks : List ℕ) (e s : ℕ) (E : Enters c above kinds marks e s) (w : ℕ) (fits : size c ≤ w) (x : ℕ) (first l : List Bool)
    → l ≡ adding w c (children_enter c e s x) first → opens c e s x ≡ true → basic c x ≡ true → set l x true ≡ adding w c (children_enter c e s (x + 1)) first
grown_leaf c above kinds marks e s E w fits x first l g o b =
    grown_more c above kinds marks e s E w fits x first l _ g o
    (grown_basic c above kinds marks e x (enters_child c above kinds marks e s E x o) w fits l (ap length g ∙ length_adding w c _ first) b)

-- a destination that is marked with the entry
pub enters_of : (c : Chart) (t : Tree) → Tabled c t → parents c ≡ true → entry_marks c ≡ true → (d e : ℕ) → e ≢ 255 → d < 48 → d < t.states → has (get_or t.entries d 0) e ≡ true → Enters c t.parents t.kinds t.entries e d
enters_of c t T rule5 rule8 d e z h k m = record {
  rooted = rooted_of c t T rule5;
  kind = T.kind;
  entries = T.entries;
  rule = rule8;
  known = omega (arith, T.count);
  some = ne_eqb e 255 z;
  marked = ap (λ (x : ℕ). has x e) (sym (T.entries d h)) ∙ m;
}

-- a destination: what is no state of the chart, or is not marked, enters nothing
module _ (c : Chart) (t : Tree) (T : Tabled c t) (rule5 : parents c ≡ true) (rule8 : entry_marks c ≡ true) (d e : ℕ) (l : List Bool) (long : length l ≡ 48) where
  pub entered_unknown : t.states ≤ d → l ≡ adding 48 c (entered c d e) l
  entered_unknown h = adding_none 48 c _ l long (λ s k. elim (ℕ_discrete e 255) [
    | yes z ↦ entered_alone c d e s z ∙ ne_eqb s d (λ q. omega (arith, T.count))
    | no z ↦ fails (entered c d e s) (λ f. omega (arith, T.count, under_known c (parents_at c rule5) d s k (entered_at c d z s f).below))
  ])

  pub entered_unmarked : e ≢ 255 → d < 48 → has (get_or t.entries d 0) e ≡ false → l ≡ adding 48 c (entered c d e) l
  entered_unmarked z h m = adding_none 48 c _ l long (λ s k. fails (entered c d e s) (λ f. let r = entered_at c d z s f in clash (r.marks d (under_refl c d) r.below) (ap (λ (x : ℕ). has x e) (sym (T.entries d h)) ∙ m)))

  pub entered_single : e ≡ 255 → d < 48 → d < t.states → set l d true ≡ adding 48 c (entered c d e) l
  entered_single z h k = adding_one 48 c d l long h (omega (arith, T.count)) ∙ adding_same 48 c _ _ l (λ s j. sym (entered_alone c d e s z))
