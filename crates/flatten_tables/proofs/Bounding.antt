-- Tables of bounds, filled from the first state on.
use mathlib.Core.Path.{◌≡◌, refl, sym, ap, ◌∙◌, subst}
use mathlib.Core.Bool.{Bool, true, false, ◌&&◌}
use mathlib.Core.Logic.{◌≢◌}
use mathlib.Core.List.{List, [], ◌∷◌, map, Memᴰ as Mem}
use Prim.Native.Nat.{ℕ, suc, ◌+◌, ◌-◌, ◌≤◌, ◌<◌}
use native.Mathlib.Omega.{arith}
use native.Mathlib.Decide.{ℕ_discrete, dec_lt}
use borrow.Author.Tests.{eq-eqb, ne_eqb, lt-ltb, ltb-true}
use lib.Dec.{ltb, eqb}
use lib.ListN.{length, get_or, set, drop, replicate, get_or-replicate, get_or-eq_default}
use lib.Seq.{get_or-set_same, get_or-set_other}
use Rattle.clocks.specs.Clocks.{free, join, join_tables}
use Rattle.lists.specs.Lists.{below, keep}
use Rattle.lists.proofs.Bools.{and_l, and_r}
use Rattle.lists.proofs.Below.{get_d_mapped, below_next, below_end}
use Rattle.lists.proofs.Lists.{keep_next, keep_left}
use Rattle.clocks.proofs.Clocks.{get_d_join_tables}
use Rattle.chart_records.specs.Chart.{Chart, State, state_at, transition_at, states, parent_of, parallel}
use Rattle.chart_records.specs.Tree.{entered}
use Rattle.chart_tree.specs.Table.{Column, Rooted, adding}
use Rattle.chart_tree.specs.declared.table.Tree.{Tree}
use Rattle.chart_records.proofs.Tree.{size, Parents, parents_at}
use Rattle.chart_records.proofs.Ranges.{chart_at_lem}
use Rattle.flattening.specs.Flatten.{Place, idle, child, pre, post, all_places, has_entry, own, carried_from, joined, join_onto, join_all, pre_bounds, arrival, arrival_bounds, bounds_of}
use Rattle.flattening.proofs.Numbers.{all_places_at}
use Rattle.flattening.proofs.Arrivals.{ends}
use Rattle.flattening.proofs.Bounds.{enough}
use Rattle.flatten_places.specs.Tables.{Chartered, Columned, kind_of, value_of, mark_of}
use Rattle.flatten_places.specs.declared.transition.Transitions.{Transitions}
use Rattle.flatten_tables.specs.Bounding.{RowsOf, above_of, Bounded}

-- rows of the first states
abbrev pub RowsTo : ℕ → (ℕ → List ℕ) → ℕ → List (List ℕ) → Type 0
RowsTo s f n table = (k : ℕ) → k < s → k < n → get_or table k [] ≡ f k

pub rows_more : (s : ℕ) (f : ℕ → List ℕ) (n : ℕ) (table : List (List ℕ)) (row : List ℕ) → RowsTo s f n table → s < length table → (s < n → row ≡ f s) → RowsTo (s + 1) f n (set table s row)
rows_more s f n table row r h e k l m = elim (ℕ_discrete k s) [
  | yes z ↦ subst (λ (j : ℕ). get_or (set table s row) j [] ≡ f j) (sym z) (get_or-set_same table s row [] h ∙ e (omega arith))
  | no z ↦ get_or-set_other table s k row [] z ∙ r k (omega arith) m
]

pub rows_skip : (s : ℕ) (f : ℕ → List ℕ) (n : ℕ) (table : List (List ℕ)) → RowsTo s f n table → (s < n → ⊥) → RowsTo (s + 1) f n table
rows_skip s f n table r e k l m = elim (ℕ_discrete k s) [
  | yes z ↦ absurd (e (omega arith))
  | no z ↦ r k (omega arith) m
]

-- the states above
module _ (c : Chart) {above : List ℕ} (R : Rooted c above) where
  tree : Parents c
  tree = parents_at c R.rule

  pub parent_lt : (s : ℕ) → s < size c → s ≢ 0 → get_or above s 0 < s
  unfolding parent_of
  parent_lt s h d = omega (arith, tree.smaller s h d, R.parent s (omega (arith, R.few)))

  pub above_at : (s : ℕ) → s < size c → s ≢ 0 → {p : ℕ} → p ≡ get_or above s 0 → {row : List ℕ} → row ≡ carried_from (suc p) c p → row ≡ above_of c s
  unfolding above_of parent_of
  above_at s h d {p} e {row} f =
      let z : p ≡ parent_of c s = e ∙ R.parent s (omega (arith, R.few)) in
      let l = tree.smaller s h d in
      f ∙ ap (λ (q : ℕ). carried_from (suc q) c q) z ∙ enough c tree (suc (parent_of c s)) (suc s) (parent_of c s) (omega arith) (omega arith) (omega arith)

  none_up : parent_of c 255 ≡ 255
  unfolding parent_of state_at
  none_up = ap (λ (x : State). x.parent) (get_or-eq_default c.states _ {n = 255} (omega (arith, R.few)))

  none_parallel : parallel c 255 ≡ false
  unfolding parallel state_at
  none_parallel = ap (λ (x : State). eqb x.kind 2) (get_or-eq_default c.states _ {n = 255} (omega (arith, R.few)))

  none_above : (n s : ℕ) → s ≡ 255 → carried_from (suc n) c s ≡ free
  unfolding carried_from
  none_above n s e = ap (carried_from (suc n) c) e ∙ rw (ap (parallel c) none_up ∙ none_parallel)

  pub above_root : 0 < size c → free ≡ above_of c 0
  unfolding above_of
  above_root h = sym (none_above 0 (parent_of c 0) (tree.rootless h))

  pub above_first : (k : ℕ) → k < 1 → k < size c → get_or (replicate 48 free) k [] ≡ above_of c k
  above_first k h l =
      let z : 0 ≡ k = omega arith in
      subst (λ (j : ℕ). get_or (replicate 48 free) j [] ≡ above_of c j) z (above_root (omega arith))

  -- the row of the next state
  pub above_next : (s : ℕ) → s < size c → 1 ≤ s → {p : ℕ} → p ≡ get_or above s 0 → p < s → (rows table : List (List ℕ)) {row : List ℕ} → RowsOf (own c) c rows → RowsTo s (above_of c) (size c) table
      → (p < size c → get_or rows p [] ≡ own c p → get_or table p [] ≡ above_of c p → row ≡ carried_from (suc p) c p) → row ≡ above_of c s
  above_next s h d {p} e l rows table f g k = above_at s h (λ z. omega arith) e (k (omega arith) (f p (omega arith)) (g p l (omega arith)))

  -- what a state's children carry
  module _ (kinds : List ℕ) (K : Column (λ x. x.kind) c kinds) (p : ℕ) (h : p < size c) where
    pub carried_first : p ≡ 0 → {mine : List ℕ} → mine ≡ own c p → mine ≡ carried_from (suc p) c p
    unfolding carried_from
    carried_first e f = f ∙ ap (own c) e ∙ rw (eq-eqb p 0 e)

    kind_above : (d : p ≢ 0) → {q k : ℕ} → q ≡ get_or above p 0 → k ≡ get_or kinds q 0 → k ≡ (state_at c (parent_of c p)).kind
    unfolding parent_of
    kind_above d {q} {k} e f =
        let z : q ≡ parent_of c p = e ∙ R.parent p (omega (arith, R.few)) in
        f ∙ ap (λ (j : ℕ). get_or kinds j 0) z ∙ K (parent_of c p) (omega (arith, R.few, tree.smaller p h d))

    pub carried_none : (d : p ≢ 0) → {q k : ℕ} → q ≡ get_or above p 0 → k ≡ get_or kinds q 0 → k ≢ 2 → free ≡ carried_from (suc p) c p
    unfolding carried_from parallel
    carried_none d e f n = let z = kind_above d e f in rw (ne_eqb p 0 d, ne_eqb (state_at c (parent_of c p)).kind 2 (λ y. n (z ∙ y)))

    pub carried_join : (d : p ≢ 0) → {q k : ℕ} → q ≡ get_or above p 0 → k ≡ get_or kinds q 0 → k ≡ 2 → {mine carried row : List ℕ} → mine ≡ own c p → carried ≡ above_of c p → row ≡ join mine carried → row ≡ carried_from (suc p) c p
    unfolding carried_from parallel above_of
    carried_join d e f y {mine} {carried} {row} m a g =
        let z = kind_above d e f in
        let l = tree.smaller p h d in
        rw (ne_eqb p 0 d, eq-eqb (state_at c (parent_of c p)).kind 2 (sym z ∙ y))
        (g ∙ ap (λ (x : List ℕ). join x carried) m ∙ ap (join (own c p)) (a ∙ enough c tree (suc p) p (parent_of c p) (omega arith) (omega arith) (omega arith)))

-- joined
pub rows_joined : (c : Chart) (a b : List (List ℕ)) {t : List (List ℕ)} → RowsOf (own c) c a → RowsOf (above_of c) c b → t ≡ join_tables a b → RowsOf (joined c) c t
unfolding joined above_of
rows_joined c a b {t} f g e s h =
    ap (λ (x : List (List ℕ)). get_or x s []) e ∙ get_d_join_tables a b s ∙ ap (λ (x : List ℕ). join x (get_or b s [])) (f s h) ∙ ap (join (own c s)) (g s h)

pub row_is : (c : Chart) (tree : Tree) (table : List (List ℕ)) → Bounded c tree table → (s : ℕ) → s < size c → {row : List ℕ} → row ≡ get_or table s [] → row ≡ joined c s
row_is c _ table B s h e = e ∙ B.rows s h

pub known_few : (c : Chart) (tree : Tree) {table : List (List ℕ)} → Bounded c tree table → (s : ℕ) → s < size c → s < 48
known_few c tree B s h = omega (arith, B.tabled.few)

-- the joined bounds of the states from k on that pass a test
unfoldable pub joins : Chart → (ℕ → Bool) → ℕ → List ℕ
joins c f k = join_all (map (joined c) (keep f (drop k (states c))))

pub joins_none : (c : Chart) (f : ℕ → Bool) → size c ≤ 48 → free ≡ joins c f 48
unfolding joins states keep join_all join_onto
joins_none c f h = rw (below_end {m = size c} refl 48 h)

-- the set of the states that pass
module _ (c : Chart) (f : ℕ → Bool) (set : List Bool) (S : set ≡ adding 48 c f (replicate 48 false)) where
  in_set : (k : ℕ) → k < 48 → get_or set k false ≡ (ltb k (size c) && f k)
  unfolding adding
  in_set k h = ap (λ (l : List Bool). get_or l k false) S ∙ get_d_mapped _ 48 k false h ∙ rw (get_or-replicate 48 k false false h)

  module _ (n : ℕ) (some : 0 < n) (few : n ≤ 48) where
    pub joins_in : (table : List (List ℕ)) → RowsOf (joined c) c table → get_or set (n - 1) false ≡ true → {row next : List ℕ} → row ≡ joins c f n → next ≡ join (get_or table (n - 1) []) row → next ≡ joins c f (n - 1)
    unfolding joins states join_all join_onto
    joins_in table B h {row} {next} e g =
        let both : (ltb (n - 1) (size c) && f (n - 1)) ≡ true = sym (in_set (n - 1) (omega arith)) ∙ h in
        let known = ltb-true (n - 1) (size c) (and_l (ltb (n - 1) (size c)) (f (n - 1)) both) in
        let there = and_r (ltb (n - 1) (size c)) (f (n - 1)) both in
        let left : drop (n - 1) (below (size c)) ≡ (n - 1) ∷ drop n (below (size c)) = below_next refl (n - 1) known ∙ ap (λ (k : ℕ). (n - 1) ∷ drop k (below (size c))) (let z : n - 1 + 1 ≡ n = omega arith in z) in
        rw (keep_next f left there) (g ∙ ap (λ (x : List ℕ). join x row) (B (n - 1) known) ∙ ap (join (joined c (n - 1))) e)

    pub joins_out : get_or set (n - 1) false ≡ false → {row : List ℕ} → row ≡ joins c f n → row ≡ joins c f (n - 1)
    unfolding joins states
    joins_out h {row} e = elim (dec_lt (n - 1) (size c)) [
      | yes known ↦
          let not : f (n - 1) ≡ false = sym (rw (lt-ltb (n - 1) (size c) known)) ∙ sym (in_set (n - 1) (omega arith)) ∙ h in
          let left : drop (n - 1) (below (size c)) ≡ (n - 1) ∷ drop n (below (size c)) = below_next refl (n - 1) known ∙ ap (λ (k : ℕ). (n - 1) ∷ drop k (below (size c))) (let z : n - 1 + 1 ≡ n = omega arith in z) in
          rw (keep_left f left not) e
      | no past ↦ rw (below_end {m = size c} {k = size c} refl (n - 1) (omega arith)) (e ∙ ap (λ (l : List ℕ). join_all (map (joined c) (keep f l))) (below_end {m = size c} {k = size c} refl n (omega arith)))
    ]

pub joins_all : (c : Chart) (d e n : ℕ) → n ≡ 0 → {row : List ℕ} → row ≡ joins c (entered c d e) n → row ≡ pre_bounds c (record { state = d; mark = e })
unfolding joins pre_bounds
joins_all c d e n z g = g ∙ ap (λ (k : ℕ). join_all (map (joined c) (keep (entered c d e) (drop k (states c))))) z

-- where a transition arrives
module _ (c : Chart) {ts : Transitions} (K : Columned c ts) (t : ℕ) (h : t < length c.transitions) where
  pub arrives_few : t < 64
  arrives_few = omega (arith, K.few)

  pub arrives_pre : {d e : ℕ} → d ≡ get_or ts.destinations t 0 → e ≡ get_or ts.entries t 0 → e ≢ 255 → {row : List ℕ} → row ≡ pre_bounds c (record { state = d; mark = e }) → row ≡ arrival_bounds c (arrival c t)
  unfolding arrival has_entry arrival_bounds
  arrives_pre {d} {e} f g n r =
      let z : e ≡ (transition_at c t).entry = g ∙ K.entry t h in
      rw (ne_eqb (transition_at c t).entry 255 (λ y. n (z ∙ y)))
      (r ∙ ap (λ (x : ℕ). pre_bounds c (record { state = x; mark = e })) (f ∙ K.destination t h) ∙ ap (λ (x : ℕ). pre_bounds c (record { state = (transition_at c t).destination; mark = x })) z)

  pub arrives_child : Chartered c → {d e : ℕ} → d ≡ get_or ts.destinations t 0 → e ≡ get_or ts.entries t 0 → e ≡ 255 → {row : List ℕ} → (d < size c → row ≡ joined c d) → row ≡ arrival_bounds c (arrival c t)
  unfolding arrival has_entry arrival_bounds
  arrives_child C {d} {e} f g n r =
      let z : d ≡ (transition_at c t).destination = f ∙ K.destination t h in
      let p = chart_at_lem C.0 C.1 in
      let k = (ends c p.0 p.1 t h).to.known in
      rw (eq-eqb (transition_at c t).entry 255 (sym (g ∙ K.entry t h) ∙ n)) (r (subst (λ (x : ℕ). x < size c) (sym z) k) ∙ ap (joined c) z)

-- the bounds of a place by its kind
pub bounds_child : (c : Chart) (p : Place) → Mem p (all_places c) → {k v : ℕ} → k ≡ kind_of p → v ≡ value_of p → k ≡ 1 → {row : List ℕ} → (v < size c → row ≡ joined c v) → row ≡ bounds_of c p
unfolding bounds_of
bounds_child c (idle q) m e f g r = absurd (omega arith)
bounds_child c (child s) m e f g r = r (subst (λ (x : ℕ). x < size c) (sym f) (all_places_at c m).stands.known) ∙ ap (joined c) f
bounds_child c (pre p) m e f g r = absurd (omega arith)
bounds_child c (post t) m e f g r = absurd (omega arith)

pub bounds_pre : (c : Chart) (p : Place) → {k v n : ℕ} → k ≡ kind_of p → v ≡ value_of p → n ≡ mark_of p → k ≡ 2 → {row : List ℕ} → row ≡ pre_bounds c (record { state = v; mark = n }) → row ≡ bounds_of c p
unfolding bounds_of
bounds_pre c (idle q) e f i g r = absurd (omega arith)
bounds_pre c (child s) e f i g r = absurd (omega arith)
bounds_pre c (pre p) {v = v} {n} e f i g r = r ∙ ap (λ (x : ℕ). pre_bounds c (record { state = x; mark = n })) f ∙ ap (λ (x : ℕ). pre_bounds c (record { state = p.state; mark = x })) i
bounds_pre c (post t) e f i g r = absurd (omega arith)

pub bounds_post : (c : Chart) (p : Place) → Mem p (all_places c) → {k v : ℕ} → k ≡ kind_of p → v ≡ value_of p → k ≡ 3 → {row : List ℕ} → (v < length c.transitions → row ≡ arrival_bounds c (arrival c v)) → row ≡ bounds_of c p
unfolding bounds_of
bounds_post c (idle q) m e f g r = absurd (omega arith)
bounds_post c (child s) m e f g r = absurd (omega arith)
bounds_post c (pre p) m e f g r = absurd (omega arith)
bounds_post c (post t) m e f g r = r (subst (λ (x : ℕ). x < length c.transitions) (sym f) (all_places_at c m).stands.0) ∙ ap (λ (x : ℕ). arrival_bounds c (arrival c x)) f

pub bounds_idle : (c : Chart) (p : Place) → {k : ℕ} → k ≡ kind_of p → k ≢ 1 → k ≢ 2 → k ≢ 3 → free ≡ bounds_of c p
unfolding bounds_of
bounds_idle c (idle q) e f g h = refl
bounds_idle c (child s) e f g h = absurd (f e)
bounds_idle c (pre p) e f g h = absurd (g e)
bounds_idle c (post t) e f g h = absurd (h e)
