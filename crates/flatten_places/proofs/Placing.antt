-- The table of places as it is filled: one more place, what it holds of each sort, and the walks that find them.
use mathlib.Core.Path.{◌≡◌, refl, sym, ap, ap₂, ◌∙◌, subst}
use mathlib.Core.Bool.{Bool, true, false, not, ◌&&◌}
use mathlib.Core.Logic.{⊎_elim}
use mathlib.Core.List.{List, [], ◌∷◌, ◌++◌, map, append_assoc, append-nil, Memᴰ as Mem}
use Prim.Native.Nat.{ℕ, ◌+◌, ◌^◌, ◌≤◌, ◌<◌}
use native.Mathlib.Omega.{arith}
use borrow.Author.Tests.{eqb-true}
use lib.Dec.{eqb}
use lib.ListN.{length, get_or, set, drop, length-append, length-set, drop_of_length-le}
use lib.Seq.{get_or-take}
use Rattle.lists.specs.Lists.{has, below, keep, concat, bits_from, bits_of}
use Rattle.lists.proofs.Bools.{decided, and_l, and_r}
use Rattle.lists.proofs.Bits.{bits_of_has, bits_same}
use Rattle.lists.proofs.Lists.{keep_all, keep_append, keep_none, keep_next, keep_left, get_d_map, get_d_mem, map_at}
use Rattle.lists.proofs.Columns.{field_more}
use Rattle.lists.proofs.Parts.{drop_next}
use Rattle.lists.proofs.Below.{below_next, below_end}
use Rattle.chart_records.specs.Chart.{Chart, transition_at, states, parent_of, home}
use Rattle.chart_records.specs.Tree.{is_child, children, sequentials, fixed, shares}
use Rattle.chart_tree.specs.Table.{Tabled}
use Rattle.chart_tree.specs.declared.table.Tree.{Tree}
use Rattle.chart_rules.proofs.TransitionRules.{transition_mem}
use Rattle.flattening.specs.Flatten.{Pair, Place, idle, child, pre, post, pairs, enters_by, enter_pairs, has_exit, transitions, place_home, automaton, at_exit, places}
use Rattle.flattening.proofs.Automata.{automaton_of_region}
use Rattle.flattening.proofs.Numbers.{pre_pairs}
use Rattle.flattening.proofs.Channels.{enter_pairs_at}
use Rattle.flatten_places.specs.Tables.{Chartered, AtExits, Columned, Automated, Paired, Listed, kind_of, value_of, mark_of, exits_at}
use Rattle.flatten_places.specs.Filling.{ListedTo, Wide, Rowed, leaving}
use Rattle.flatten_places.specs.declared.automaton.Automata.{Automata}
use Rattle.flatten_places.specs.declared.pair.Pairs.{Pairs}
use Rattle.flatten_places.specs.declared.place.Places.{Places}
use Rattle.flatten_places.specs.declared.place.Row.{Row}
use Rattle.flatten_places.specs.declared.transition.Transitions.{Transitions}
use Rattle.flatten_places.proofs.StateWalks.{walk_yes, walk_no, walk_end, parent_of_lem}
use Rattle.flatten_places.proofs.Chartered.{ranges_of}

-- the table before the rest of a list
module _ (c : Chart) (whole : List Place) where
  pub listed_none : (p : Places) → Wide p → p.count ≡ 0 → ListedTo c whole whole p
  listed_none p w e = record { wide = w; seen = []; split = refl; listed = record { count = e; few = omega arith; kinds = refl; values = refl; marks = refl; automata = refl; exits = refl } }

  pub listed_by : (p : Places) {l m : List Place} → l ≡ m → ListedTo c whole l p → ListedTo c whole m p
  listed_by p e L = subst (λ (l : List Place). ListedTo c whole l p) e L

  pub listed_room : (p : Places) (x : Place) (rest : List Place) → ListedTo c whole (x ∷ rest) p → p.count < length whole
  listed_room p x rest L = omega (arith, L.listed.count, ap length L.split, length-append L.seen (x ∷ rest))

  pub listed_all : (p : Places) → ListedTo c whole [] p → Listed c whole p
  listed_all p L = subst (λ (l : List Place). Listed c l p) (sym (L.split ∙ append-nil L.seen)) L.listed

  pub listed_more : (p : Places) (x : Place) (rest : List Place) → ListedTo c whole (x ∷ rest) p → length whole ≤ 192 → (r : Row) → Rowed c x r
      → ListedTo c whole rest (record {
        kinds = set p.kinds p.count r.kind;
        values = set p.values p.count r.value;
        marks = set p.marks p.count r.mark;
        automata = set p.automata p.count r.automaton;
        exits = set p.exits p.count r.exits;
        count = p.count + 1;
      })
  listed_more p x rest L f r R =
      let k = L.listed in
      let room = listed_room p x rest L in
      let w = L.wide in
      record {
        wide = record {
          kinds = length-set p.kinds p.count _ ∙ w.kinds;
          values = length-set p.values p.count _ ∙ w.values;
          marks = length-set p.marks p.count _ ∙ w.marks;
          automata = length-set p.automata p.count _ ∙ w.automata;
          exits = length-set p.exits p.count _ ∙ w.exits;
        };
        seen = L.seen ++ (x ∷ []);
        split = L.split ∙ sym (append_assoc L.seen (x ∷ []) rest);
        listed = record {
          count = omega (arith, k.count, length-append L.seen (x ∷ []));
          few = omega (arith, k.count, length-append L.seen (x ∷ []));
          kinds = field_more kind_of L.seen x p.kinds _ p.count k.kinds k.count (omega (arith, w.kinds)) R.kind;
          values = field_more value_of L.seen x p.values _ p.count k.values k.count (omega (arith, w.values)) R.value;
          marks = field_more mark_of L.seen x p.marks _ p.count k.marks k.count (omega (arith, w.marks)) R.mark;
          automata = field_more (λ x. automaton c (place_home c x)) L.seen x p.automata _ p.count k.automata k.count (omega (arith, w.automata)) R.automaton;
          exits = field_more (exits_at c) L.seen x p.exits _ p.count k.exits k.count (omega (arith, w.exits)) R.exits;
        };
      }

-- what a place is at
no_exits : bits_of (λ e. false) 8 ≡ 0
unfolding bits_of bits_from
no_exits = refl

exits_child : (c : Chart) (s e : ℕ) → e < 2 ^ 8 → ((i : ℕ) → i < 8 → has e i ≡ (fixed c s && shares c i s)) → e ≡ exits_at c (child s)
unfolding exits_at at_exit
exits_child c s e small f = sym (bits_of_has 8 e small) ∙ bits_same _ _ 8 f

-- the rows of places
pub child_row : (c : Chart) (q s a e : ℕ) → parent_of c s ≡ q → a ≡ automaton c q → e < 2 ^ 8 → ((i : ℕ) → i < 8 → has e i ≡ (fixed c s && shares c i s)) → Rowed c (child s) (record { kind = 1; value = s; mark = 0; automaton = a; exits = e })
unfolding place_home
child_row c q s a e p n small f = record { kind = refl; value = refl; mark = refl; automaton = n ∙ ap (automaton c) (sym p); exits = exits_child c s e small f }

pub idle_row : (c : Chart) (q a : ℕ) → a ≡ automaton c q → Rowed c (idle q) (record { kind = 0; value = q; mark = 0; automaton = a; exits = 0 })
unfolding place_home exits_at at_exit
idle_row c q a n = record { kind = refl; value = refl; mark = refl; automaton = n; exits = sym no_exits }

pub pre_row : (c : Chart) (q a s m : ℕ) (p : Pair) → s ≡ p.state → m ≡ p.mark → parent_of c p.state ≡ q → a ≡ automaton c q → Rowed c (pre p) (record { kind = 2; value = s; mark = m; automaton = a; exits = 0 })
unfolding place_home exits_at at_exit
pre_row c q a s m p e f h n = record { kind = refl; value = e; mark = f; automaton = n ∙ ap (automaton c) (sym h); exits = sym no_exits }

pub post_row : (c : Chart) (q a t : ℕ) → home c t ≡ q → a ≡ automaton c q → Rowed c (post t) (record { kind = 3; value = t; mark = 0; automaton = a; exits = 0 })
unfolding place_home exits_at at_exit
post_row c q a t h n = record { kind = refl; value = refl; mark = refl; automaton = n ∙ ap (automaton c) (sym h); exits = sym no_exits }

-- the walk over the children of q
abbrev pub children_from : Chart → ℕ → ℕ → List Place
children_from c q s = map child (keep (is_child c q) (drop s (states c)))

module _ {c : Chart} {t : Tree} (T : Tabled c t) (q : ℕ) where
  pub child_test : (s : ℕ) → s < t.states → (not (eqb s 0) && eqb (get_or t.parents s 0) q) ≡ is_child c q s
  child_test s h = ap (λ (x : ℕ). not (eqb s 0) && eqb x q) (parent_of_lem T s h)

  pub children_yes : (s : ℕ) (rest : List Place) → s < t.states → is_child c q s ≡ true → children_from c q s ++ rest ≡ child s ∷ (children_from c q (s + 1) ++ rest)
  children_yes s rest h e = ap (λ (l : List ℕ). map child l ++ rest) (walk_yes T (is_child c q) s h e)

  pub children_no : (s : ℕ) (rest : List Place) → s < t.states → is_child c q s ≡ false → children_from c q s ++ rest ≡ children_from c q (s + 1) ++ rest
  children_no s rest h e = ap (λ (l : List ℕ). map child l ++ rest) (walk_no T (is_child c q) s h e)

  pub children_end : (s : ℕ) (rest : List Place) → t.states ≤ s → children_from c q s ++ rest ≡ rest
  children_end s rest h = ap (λ (l : List ℕ). map child l ++ rest) (walk_end T (is_child c q) s h)

  pub child_row_at : (left : List ℕ) → AtExits c left → (s a e : ℕ) → s < t.states → is_child c q s ≡ true → a ≡ automaton c q → e ≡ get_or left s 0 → e < 2 ^ 8 → Rowed c (child s) (record { kind = 1; value = s; mark = 0; automaton = a; exits = e })
  child_row_at left F s a e l i n x small = child_row c q s a e (eqb-true (parent_of c s) q (and_r (not (eqb s 0)) _ i)) n small (λ j h. ap (λ (y : ℕ). has y j) x ∙ F s j (omega (arith, T.count)) h)

-- the walk over the pairs that are entered: the pairs of some states are those pairs whose state is one of them
pairs_kept : (p : ℕ → ℕ → Bool) (n : ℕ) (t : ℕ → Bool) (ss : List ℕ) → pairs p n (keep t ss) ≡ keep (λ x. t x.state) (pairs p n ss)
unfolding pairs keep concat
pairs_kept p n t [] = refl
pairs_kept p n t (s ∷ ss) = ⊎_elim
    (λ e. rw e (ap₂ ◌++◌ (sym (keep_all (λ x. t x.state) here-all (λ x m. ap t (state_is x m) ∙ e))) (pairs_kept p n t ss)) ∙ sym (keep_append (λ x. t x.state) here-all (pairs p n ss)))
    (λ e. rw e (pairs_kept p n t ss) ∙ ap (λ (l : List Pair). l ++ keep (λ x. t x.state) (pairs p n ss)) (sym (keep_none (λ x. t x.state) here-all (λ x m. ap t (state_is x m) ∙ e))) ∙ sym (keep_append (λ x. t x.state) here-all (pairs p n ss)))
    (decided (t s))
  where
    here-all : List Pair
    here-all = map (λ m. record { state = s; mark = m }) (keep (p s) (below n))

    state_is : (x : Pair) → Mem x here-all → x.state ≡ s
    state_is x m = ap (λ (z : Pair). z.state) (map_at (λ m. record { state = s; mark = m }) (keep (p s) (below n)) m).2

abbrev pub pres_from : Chart → ℕ → ℕ → List Place
pres_from c q i = map pre (keep (λ x. is_child c q x.state) (drop i (enter_pairs c)))

pub pres_all : (c : Chart) (q : ℕ) → map pre (pairs (enters_by c) c.entries (children c q)) ≡ pres_from c q 0
unfolding children enter_pairs
pres_all c q = ap (map pre) (pairs_kept (enters_by c) c.entries (is_child c q) (states c))

-- the pair at a place of its table
abbrev pub pair_at : Chart → ℕ → Pair
pair_at c i = get_or (enter_pairs c) i (record { state = 0; mark = 0 })

module _ (c : Chart) {p : Pairs} (P : Paired (enter_pairs c) p) (i : ℕ) (h : i < p.count) where
  pub pair_state : get_or p.states i 0 ≡ (pair_at c i).state
  pair_state = sym (get_or-take (length (enter_pairs c)) p.states i 0 (omega (arith, P.count))) ∙ ap (λ (l : List ℕ). get_or l i 0) (sym P.states) ∙ get_d_map (λ x. x.state) (enter_pairs c) i _ 0 (omega (arith, P.count))

  pub pair_mark : get_or p.marks i 0 ≡ (pair_at c i).mark
  pair_mark = sym (get_or-take (length (enter_pairs c)) p.marks i 0 (omega (arith, P.count))) ∙ ap (λ (l : List ℕ). get_or l i 0) (sym P.marks) ∙ get_d_map (λ x. x.mark) (enter_pairs c) i _ 0 (omega (arith, P.count))

  pub pair_mem : Mem (pair_at c i) (enter_pairs c)
  pair_mem = get_d_mem (enter_pairs c) i _ (omega (arith, P.count))

  module _ (q : ℕ) (rest : List Place) where
    next : drop i (enter_pairs c) ≡ pair_at c i ∷ drop (i + 1) (enter_pairs c)
    next = drop_next (enter_pairs c) i _ (omega (arith, P.count))

    pub pres_yes : is_child c q (pair_at c i).state ≡ true → pres_from c q i ++ rest ≡ pre (pair_at c i) ∷ (pres_from c q (i + 1) ++ rest)
    pres_yes e = ap (λ (l : List Pair). map pre l ++ rest) (keep_next (λ x. is_child c q x.state) next e)

    pub pres_no : is_child c q (pair_at c i).state ≡ false → pres_from c q i ++ rest ≡ pres_from c q (i + 1) ++ rest
    pres_no e = ap (λ (l : List Pair). map pre l ++ rest) (keep_left (λ x. is_child c q x.state) next e)

  -- the code's test
  pub pre_test : {t : Tree} → Tabled c t → (q s : ℕ) → s ≡ get_or p.states i 0 → (not (eqb s 0) && eqb (get_or t.parents s 0) q) ≡ is_child c q (pair_at c i).state
  pre_test {t} T q s e =
      let z : s ≡ (pair_at c i).state = e ∙ pair_state in
      child_test T q s (omega (arith, T.count, (enter_pairs_at c pair_mem).0)) ∙ ap (is_child c q) z

  pub pre_row_at : (q a s m : ℕ) → is_child c q (pair_at c i).state ≡ true → a ≡ automaton c q → s ≡ get_or p.states i 0 → m ≡ get_or p.marks i 0 → Rowed c (pre (pair_at c i)) (record { kind = 2; value = s; mark = m; automaton = a; exits = 0 })
  pre_row_at q a s m k n e f = pre_row c q a s m (pair_at c i) (e ∙ pair_state) (f ∙ pair_mark) (eqb-true (parent_of c (pair_at c i).state) q (and_r (not (eqb (pair_at c i).state 0)) _ k)) n

pub pres_end : (c : Chart) {p : Pairs} → Paired (enter_pairs c) p → (i q : ℕ) (rest : List Place) → p.count ≤ i → pres_from c q i ++ rest ≡ rest
unfolding keep
pres_end c P i q rest h = ap (λ (l : List Pair). map pre (keep (λ x. is_child c q x.state) l) ++ rest) (drop_of_length-le (enter_pairs c) {i = i} (omega (arith, P.count)))

-- the walk over the transitions that leave a child of q by an exit
abbrev pub leaves_home : Chart → ℕ → ℕ → Bool
leaves_home c q t = eqb (home c t) q && has_exit c t

abbrev pub posts_from : Chart → ℕ → ℕ → List Place
posts_from c q i = map post (keep (leaves_home c q) (drop i (transitions c)))

module _ {c : Chart} {u : Transitions} (C : Columned c u) (q i : ℕ) (rest : List Place) where
  pub posts_yes : i < u.count → leaves_home c q i ≡ true → posts_from c q i ++ rest ≡ post i ∷ (posts_from c q (i + 1) ++ rest)
  unfolding transitions
  posts_yes h e = ap (λ (l : List ℕ). map post l ++ rest) (keep_next (leaves_home c q) (below_next (sym C.count) i h) e)

  pub posts_no : i < u.count → leaves_home c q i ≡ false → posts_from c q i ++ rest ≡ posts_from c q (i + 1) ++ rest
  unfolding transitions
  posts_no h e = ap (λ (l : List ℕ). map post l ++ rest) (keep_left (leaves_home c q) (below_next (sym C.count) i h) e)

  pub posts_end : u.count ≤ i → posts_from c q i ++ rest ≡ rest
  unfolding transitions keep
  posts_end h = ap (λ (l : List ℕ). map post (keep (leaves_home c q) l) ++ rest) (below_end (sym C.count) i h)

-- the home of a transition, by the tables
pub home_at : {c : Chart} {t : Tree} {u : Transitions} → Chartered c → Tabled c t → Columned c u → (i : ℕ) → i < u.count → get_or t.parents (get_or u.sources i 0) 0 ≡ home c i
unfolding home
home_at {c} {t} {u} h T C i l =
    let k : i < length c.transitions = omega (arith, C.count) in
    let r = (ranges_of h).of_transition (transition_at c i) (transition_mem c i k) in
    let s = C.source i k in
    ap (λ (x : ℕ). get_or t.parents x 0) s ∙ parent_of_lem T (transition_at c i).source (omega (arith, T.count, r.source_known))

pub post_test : {c : Chart} {t : Tree} {u : Transitions} → Chartered c → Tabled c t → Columned c u
    → (q i : ℕ) → i < u.count → (eqb (get_or t.parents (get_or u.sources i 0) 0) q && not (eqb (get_or u.exits i 0) 255)) ≡ leaves_home c q i
unfolding has_exit
post_test {c} {t} {u} h T C q i l =
    ap₂ (λ (x y : ℕ). eqb x q && not (eqb y 255)) (home_at h T C i l) (C.exit i (omega (arith, C.count)))

pub post_row_at : (c : Chart) (q a i : ℕ) → leaves_home c q i ≡ true → a ≡ automaton c q → Rowed c (post i) (record { kind = 3; value = i; mark = 0; automaton = a; exits = 0 })
post_row_at c q a i e n = post_row c q a i (eqb-true (home c i) q (and_l (eqb (home c i) q) _ e)) n

-- the places of one automaton, by their sorts
pub places_split : (c : Chart) (q : ℕ) (rest : List Place) → places c q ++ rest ≡ idle q ∷ (map child (children c q) ++ (map pre (pairs (enters_by c) c.entries (children c q)) ++ (map post (leaving c q) ++ rest)))
unfolding places
places_split c q rest = ap (λ (l : List Place). idle q ∷ l) (append_assoc (map child (children c q)) (map pre (pre_pairs c q) ++ map post (leaving c q)) rest ∙ ap (λ (l : List Place). map child (children c q) ++ l) (append_assoc (map pre (pre_pairs c q)) (map post (leaving c q)) rest))

-- the walk over the automata
module _ {c : Chart} {u : Automata} (A : Automated c u) (a : ℕ) where
  pub automaton_at : a < u.count → (q : ℕ) → q ≡ get_or u.states a 0 → (q ≡ get_or (sequentials c) a 0) × (a ≡ automaton c q)
  automaton_at h q e =
      let l : a < length (sequentials c) = omega (arith, A.count) in
      let s : q ≡ get_or (sequentials c) a 0 = e ∙ sym (get_or-take (length (sequentials c)) u.states a 0 l) ∙ ap (λ (x : List ℕ). get_or x a 0) (sym A.states) in
      (s, sym (automaton_of_region c a l) ∙ ap (automaton c) (sym s))

  pub automata_next : a < u.count → (q : ℕ) → q ≡ get_or u.states a 0 → concat (places c) (drop a (sequentials c)) ≡ places c q ++ concat (places c) (drop (a + 1) (sequentials c))
  unfolding concat
  automata_next h q e = ap (concat (places c)) (drop_next (sequentials c) a 0 (omega (arith, A.count))) ∙ ap (λ (x : ℕ). places c x ++ concat (places c) (drop (a + 1) (sequentials c))) (sym (automaton_at h q e).0)

  pub automata_end : u.count ≤ a → concat (places c) (drop a (sequentials c)) ≡ []
  unfolding concat
  automata_end h = ap (concat (places c)) (drop_of_length-le (sequentials c) {i = a} (omega (arith, A.count)))

pub state_column : {c : Chart} {u : Automata} → Automated c u → (b : ℕ) → b < length (sequentials c) → get_or u.states b 0 ≡ get_or (sequentials c) b 0
state_column A b h = (automaton_at A b (omega (arith, A.count)) _ refl).0
