-- Laws of the walk over places: what its tables say, and the edges from each kind of place.
use mathlib.Core.Path.{◌≡◌, sym, ap, ap₂, ◌∙◌, subst}
use mathlib.Core.Bool.{true, false, cond, not}
use mathlib.Core.Logic.{◌⊎◌, inl, inr, ◌≢◌}
use mathlib.Core.List.{List, [], ◌∷◌, map, Memᴰ as Mem}
use Prim.Native.Nat.{ℕ, ◌+◌, ◌≤◌, ◌<◌}
use native.Mathlib.Omega.{arith}
use borrow.Author.Tests.{eqb-true, eq-eqb, ne_eqb}
use lib.Dec.{eqb}
use lib.ListN.{length, get_or, take}
use Rattle.lists.specs.Lists.{concat, position}
use Rattle.lists.proofs.Bools.{clash, decided, and_l, not_no, cond_yes, cond_no}
use Rattle.lists.proofs.Position.{index_lt}
use Rattle.lists.proofs.Below.{length_below, get_d_below}
use Rattle.chart_records.specs.Chart.{Chart, transition_at, states, parent_of}
use Rattle.chart_records.specs.Tree.{is_child, children}
use Rattle.chart_tree.specs.Table.{Rooted}
use Rattle.chart_records.proofs.Tree.{size}
use Rattle.chart_records.proofs.Rules.{Passed}
use Rattle.chart_tree.proofs.Tables.{parent_at, rooted_of}
use Rattle.chart_records.proofs.Ranges.{Ranges}
use Rattle.network_records.specs.Network.{Edge}
use Rattle.flattening.specs.Flatten.{Pair, Place, idle, child, pre, post, same_pair, enter_pairs, exit_pairs, all_places, number, place_home, arrival, enter_channel, exit_channel, signalling, own_edge, heard_entries, from_place}
use Rattle.flattening.proofs.Numbers.{IsPlace, all_places_at, all_places_by, child_place, same_pair_at, same_pair_by}
use Rattle.flattening.proofs.Automata.{Region}
use Rattle.flattening.proofs.Channels.{pre_enters}
use Rattle.flattening.proofs.Arrivals.{arrival_place, exit_pair_lem}
use Rattle.flatten_places.specs.Tables.{Paired}
use Rattle.flatten_places.specs.Walking.{Tabulated, Spread}
use Rattle.flatten_places.specs.declared.pair.Pairs.{Pairs}
use Rattle.flatten_places.specs.declared.walk.Tables.{Tables}
use Rattle.flatten_places.proofs.Chartered.{passed_of, ranges_of, parents_of}
use Rattle.flatten_edges.specs.Gathering.{head_of}
use Rattle.flatten_edges.specs.Adding.{Adds}
use Rattle.flatten_edges.specs.Ends.{Flagged, Joins}
use Rattle.flatten_edges.specs.Hearing.{PairColumns, HearsEntries}
use Rattle.flatten_edges.specs.declared.flag.Ends.{Ends}
use Rattle.flatten_edges.specs.declared.head.Head.{Head}
use Rattle.flatten_edges.proofs.Gathers.{adds_skip, walk_more, walk_all}
use Rattle.lists.proofs.Concat.{concat_kept}

pub pairs_of_lem : (ps : List Pair) (p : Pairs) → Paired ps p → PairColumns ps p.states p.marks p.count
pairs_of_lem ps p P = record { count = P.count; few = P.few; state = P.states; mark = P.marks }

module _ (c : Chart) (t : Tables) (exits homes : List ℕ) (T : Tabulated c t) (S : Spread c exits homes) where
  passed : Passed c
  passed = passed_of T.chart

  ranges : Ranges c
  ranges = ranges_of T.chart

  pub flagged_of : Flagged c exits homes t.initials
  flagged_of = record { chart = T.chart; exits = S.marks; automata = S.owners; initials = T.initials }

  -- one edge of the network's own
  own_adds : (p r : Place) (signal from to ch : ℕ) {y : ℕ} (e : Ends) (h : Head) {s l : List ℕ} {n m : ℕ} → IsPlace c p → IsPlace c r → from ≡ number c p → to ≡ number c r → ch ≡ y
      → ((c : Chart) (p q : Place) → Flagged c exits homes t.initials → Mem p (all_places c) → Mem q (all_places c) → from ≡ number c p → to ≡ number c q → Joins c p q e)
      → ((c : Chart) (p q : Place) → Joins c p q e → h ≡ head_of (own_edge c p q (signalling signal ch)))
      → ((e : Edge) → h ≡ head_of e → Adds s n l m (e ∷ [])) → Adds s n l m (own_edge c p r (signalling signal y) ∷ [])
  own_adds p r signal from to ch e h j k f g z J H A = A _ (H c p r (J c p r flagged_of (all_places_by c j) (all_places_by c k) f g) ∙ ap (λ (x : ℕ). head_of (own_edge c p r (signalling signal x))) z)

  -- the edge from before an entry
  pub pre_adds : (p : Pair) (i state mark to k ch : ℕ) (e : Ends) (h : Head) {s l : List ℕ} {n m : ℕ} → Mem (pre p) (all_places c) → i ≡ number c (pre p) → state ≡ p.state → mark ≡ p.mark
      → to ≡ get_or t.numbers state 0
      → ((c : Chart) (p q : Place) → Flagged c exits homes t.initials → Mem p (all_places c) → Mem q (all_places c) → i ≡ number c p → to ≡ number c q → Joins c p q e)
      → ((ps : List Pair) (p : Pair) → PairColumns ps t.enters.states t.enters.marks t.enters.count → state ≡ p.state → mark ≡ p.mark → k ≡ position (same_pair p) ps)
      → (t.channels < 128 → k < 128 → ch ≡ t.channels + k)
      → ((c : Chart) (p q : Place) → Joins c p q e → h ≡ head_of (own_edge c p q (signalling 1 ch)))
      → ((e : Edge) → h ≡ head_of e → Adds s n l m (e ∷ [])) → Adds s n l m (from_place c (pre p))
  unfolding from_place enter_channel place_home
  pre_adds p i state mark to k ch e h m f a b g J K C H A =
      let j = all_places_at c m in
      let to-child : IsPlace c (child p.state) = (child_place c j.region j.stands.0).is_place in
      let at : k ≡ position (same_pair p) (enter_pairs c) = K _ p (pairs_of_lem _ _ T.enters) a b in
      let lt = index_lt same_pair same_pair_at same_pair_by (pre_enters c j) in
      let channel : ch ≡ enter_channel c p = C (omega (arith, T.channels, ranges.channels_few)) (omega (arith, T.enters.few)) ∙ ap₂ (λ (x y : ℕ). x + y) T.channels at in
      own_adds (pre p) (child p.state) 1 i to ch e h j to-child f (g ∙ ap (λ (x : ℕ). get_or t.numbers x 0) a ∙ T.numbers p.state (all_places_by c to-child)) channel J H A

  -- the edge from after an exit
  pub post_adds : (u i to source exit k before ch : ℕ) (e : Ends) (h : Head) {s l : List ℕ} {n m : ℕ} → Mem (post u) (all_places c) → i ≡ number c (post u)
      → to ≡ get_or t.arrivals u 0 → source ≡ get_or t.transitions.sources u 0 → exit ≡ get_or t.transitions.exits u 0
      → ((c : Chart) (p q : Place) → Flagged c exits homes t.initials → Mem p (all_places c) → Mem q (all_places c) → i ≡ number c p → to ≡ number c q → Joins c p q e)
      → ((ps : List Pair) (p : Pair) → PairColumns ps t.leaves.states t.leaves.marks t.leaves.count → source ≡ p.state → exit ≡ p.mark → k ≡ position (same_pair p) ps)
      → (t.channels < 128 → t.enters.count < 128 → before ≡ t.channels + t.enters.count)
      → (before < 128 → k < 128 → ch ≡ before + k)
      → ((c : Chart) (p q : Place) → Joins c p q e → h ≡ head_of (own_edge c p q (signalling 1 ch)))
      → ((e : Edge) → h ≡ head_of e → Adds s n l m (e ∷ [])) → Adds s n l m (from_place c (post u))
  unfolding from_place exit_channel place_home
  post_adds u i to source exit k before ch e h m f g a b J K B C H A =
      let j = all_places_at c m in
      let z = j.stands in
      let p : Pair = record { state = (transition_at c u).source; mark = (transition_at c u).exit } in
      let at : k ≡ position (same_pair p) (exit_pairs c) = K _ p (pairs_of_lem _ _ T.leaves) (a ∙ T.transitions.source u z.0) (b ∙ T.transitions.exit u z.0) in
      let lt = index_lt same_pair same_pair_at same_pair_by (exit_pair_lem c passed ranges u z.0 z.1) in
      let first : before ≡ t.channels + t.enters.count = B (omega (arith, T.channels, ranges.channels_few)) (omega (arith, T.enters.count, T.enters.few)) in
      let start : before ≡ c.rendezvous + c.broadcasts + length (enter_pairs c) = first ∙ ap₂ (λ (x y : ℕ). x + y) T.channels T.enters.count in
      let channel : ch ≡ exit_channel c p = C (omega (arith, start, ranges.channels_few, T.enters.few)) (omega (arith, T.leaves.few)) ∙ ap₂ (λ (x y : ℕ). x + y) start at in
      own_adds (post u) (arrival c u) 1 i to ch e h j (arrival_place c passed ranges u z.0).is_place f (g ∙ T.arrivals u z.0) channel J H A

-- the edges to a state from its idle parent q, if that is its parent
abbrev pub idle_edges : Chart → ℕ → ℕ → List Edge
idle_edges c q s = cond (is_child c q s) (map (λ p. own_edge c (idle q) (child s) (signalling 2 (enter_channel c p))) (heard_entries c s)) []

module _ (c : Chart) (t : Tables) (exits homes : List ℕ) (T : Tabulated c t) (S : Spread c exits homes) where
  pub rooted_tables : Rooted c t.tree.parents
  rooted_tables = rooted_of c t.tree T.tree (parents_of T.chart)

  pub parent_table : (s : ℕ) → s < size c → get_or t.tree.parents s 0 ≡ parent_of c s
  parent_table s h = parent_at c t.tree.parents rooted_tables s (omega (arith, T.tree.few))

  module _ (i q : ℕ) (m : Mem (idle q) (all_places c)) (f : i ≡ number c (idle q)) (s : ℕ) (h : s < t.tree.states) where
    known : s < size c
    known = omega (arith, T.tree.count)

    region : Region c q
    unfolding place_home
    region = (all_places_at c m).region

    child_test : {above : ℕ} → above ≡ get_or t.tree.parents s 0 → is_child c q s ≡ eqb above q
    child_test {above} a = go (decided (eqb s 0))
      where
        up : above ≡ parent_of c s
        up = a ∙ parent_table s known

        root : s ≡ 0 → above ≢ q
        root z e = omega (arith, e, up, ap (parent_of c) z, (passed_of T.chart).tree.rootless (omega (arith, (ranges_of T.chart).states_some)), region.known, (ranges_of T.chart).states_few)

        go : (eqb s 0 ≡ true) ⊎ (eqb s 0 ≡ false) → is_child c q s ≡ eqb above q
        go (inl z) = rw z (sym (ne_eqb above q (root (eqb-true s 0 z))))
        go (inr z) = rw z (ap (λ (x : ℕ). eqb x q) (sym up))

    step : {l k b : List ℕ} {n j d : ℕ} → Adds b d l n (concat (idle_edges c q) (take s (states c))) → Adds l n k j (idle_edges c q s) → Adds b d k j (concat (idle_edges c q) (take (s + 1) (states c)))
    unfolding states
    step {l} {k} {n = n} {j = j} W A = walk_more (idle_edges c q) (states c) s 0 W (omega (arith, length_below (size c), known)) (subst (λ (x : ℕ). Adds l n k j (idle_edges c q x)) (sym (get_d_below (size c) s 0 known)) A)

    -- a state that is no child
    pub idle_skip : {above : ℕ} {l b : List ℕ} {n d : ℕ} → Adds b d l n (concat (idle_edges c q) (take s (states c))) → above ≡ get_or t.tree.parents s 0 → (above ≡ q → ⊥) → Adds b d l n (concat (idle_edges c q) (take (s + 1) (states c)))
    idle_skip {above} W a g = step W (adds_skip _ _ (cond_no _ _ (child_test a ∙ ne_eqb above q g)))

    -- a child
    pub idle_more : {above : ℕ} {l k b : List ℕ} {n j d : ℕ} → Adds b d l n (concat (idle_edges c q) (take s (states c))) → above ≡ get_or t.tree.parents s 0 → above ≡ q
        → (Mem (child s) (all_places c) → parent_of c s ≡ q → Adds l n k j (map (λ p. own_edge c (idle q) (child s) (signalling 2 (enter_channel c p))) (heard_entries c s)))
        → Adds b d k j (concat (idle_edges c q) (take (s + 1) (states c)))
    idle_more {above} {l} {k} {n = n} {j = j} W a g A =
        let is_child_lem : is_child c q s ≡ true = child_test a ∙ eq-eqb above q g in
        let home : parent_of c s ≡ q = sym (parent_table s known) ∙ sym a ∙ g in
        let below_root : s ≢ 0 = λ y. clash (and_l (not (eqb s 0)) _ is_child_lem) (not_no (eq-eqb s 0 y)) in
        let place = (child_place c region (record { known = known; below_root = below_root; parent_is = home })).is_place in
        step W (subst (Adds l n k j) (sym (cond_yes _ _ is_child_lem)) (A (all_places_by c place) home))

  -- the edges to a child
  pub entered_adds : (i q s : ℕ) {to : ℕ} {e : Ends} {l k : List ℕ} {n j : ℕ} → Mem (idle q) (all_places c) → i ≡ number c (idle q) → Mem (child s) (all_places c) → parent_of c s ≡ q → to ≡ get_or t.numbers s 0
      → ((c : Chart) (p q : Place) → Flagged c exits homes t.initials → Mem p (all_places c) → Mem q (all_places c) → i ≡ number c p → to ≡ number c q → Joins c p q e)
      → ((c : Chart) → HearsEntries c e t.tree.parents t.tree.entries q s t.enters.states t.enters.marks t.enters.count t.channels
      → Adds l n k j (map (λ p. own_edge c (idle q) (child s) (signalling 2 (enter_channel c p))) (heard_entries c s)))
      → Adds l n k j (map (λ p. own_edge c (idle q) (child s) (signalling 2 (enter_channel c p))) (heard_entries c s))
  unfolding place_home
  entered_adds i q s m f k home z J A = A c (record {
    chart = T.chart;
    tree = record { rooted = rooted_tables; marks = T.tree.entries };
    columns = pairs_of_lem _ _ T.enters;
    channels = T.channels;
    known = (all_places_at c k).stands.known;
    home_known = (all_places_at c m).region.known;
    home_is = sym home;
    joins = J c (idle q) (child s) (flagged_of c t exits homes T S) m k f (z ∙ T.numbers s k);
  })

  pub idle_all : (q s : ℕ) {l b : List ℕ} {n d : ℕ} → Adds b d l n (concat (idle_edges c q) (take s (states c))) → t.tree.states ≤ s → Adds b d l n (from_place c (idle q))
  unfolding from_place children states
  idle_all q s {l} {b} {n} {d} W h = subst (Adds b d l n) (concat_kept (is_child c q) (λ s. map (λ p. own_edge c (idle q) (child s) (signalling 2 (enter_channel c p))) (heard_entries c s)) (states c))
      (walk_all (idle_edges c q) (states c) s W (omega (arith, length_below (size c), T.tree.count)))
