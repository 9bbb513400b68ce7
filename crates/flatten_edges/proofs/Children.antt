-- The edges from a child: to its idle parent, and those that bear its transitions.
use mathlib.Core.Path.{◌≡◌, sym, ap, ap₂, ◌∙◌, subst}
use mathlib.Core.Bool.{Bool, true, false, cond}
use mathlib.Core.Logic.{◌≢◌}
use mathlib.Core.List.{List, [], ◌++◌, map, Memᴰ as Mem}
use Prim.Native.Nat.{ℕ, ◌+◌, ◌<◌}
use native.Mathlib.Omega.{arith}
use borrow.Author.Tests.{eqb-true}
use lib.Dec.{eqb}
use lib.ListN.{length, get_or}
use Rattle.lists.specs.Lists.{has, concat}
use Rattle.lists.proofs.Bools.{fails, and_l, and_r}
use Rattle.lists.proofs.Lists.{keep_none}
use Rattle.lists.proofs.Below.{below_at}
use Rattle.lists.proofs.Concat.{concat_append, concat_map, concat_none, concat_one, concat_concat}
use Rattle.chart_records.specs.Chart.{Chart, transition_at, parent_of, home}
use Rattle.chart_records.specs.Tree.{children, sequentials}
use Rattle.chart_records.proofs.Tree.{size}
use Rattle.network_records.specs.Network.{Edge}
use Rattle.flattening.specs.Flatten.{Place, idle, child, pre, post, transitions, has_exit, has_entry, enter_pairs, places, all_places, number, automaton, place_home, arrival, departure, bearing, bearing_all, exit_channel, signalling, own_edge, heard_exits, to_place, from_place}
use Rattle.flattening.proofs.Automata.{Region, sequentials_by, sequentials_once, automaton_lt, region_of_automaton}
use Rattle.flattening.proofs.Numbers.{pre_pairs, post_transitions, idle_place, places_at, all_places_at, all_places_by, same_place_at}
use Rattle.flattening.proofs.Arrivals.{departure_place}
use Rattle.flatten_places.specs.Walking.{Tabulated, Spread}
use Rattle.flatten_places.specs.declared.walk.Tables.{Tables}
use Rattle.flatten_places.proofs.Chartered.{passed_of, ranges_of}
use Rattle.flatten_edges.specs.Adding.{Adds}
use Rattle.flatten_edges.specs.Ends.{Flagged, Joins}
use Rattle.flatten_edges.specs.Hearing.{HearsExits}
use Rattle.flatten_edges.specs.declared.flag.Ends.{Ends}
use Rattle.flatten_edges.proofs.Gathers.{adds_then}
use Rattle.flatten_edges.proofs.Joining.{place_at_lem}
use Rattle.flatten_edges.proofs.Walks.{pairs_of_lem, flagged_of, rooted_tables, parent_table}

module _ (c : Chart) (t : Tables) (T : Tabulated c t) (s : ℕ) (m : Mem (child s) (all_places c)) where
  q : ℕ
  q = parent_of c s

  region : Region c q
  unfolding place_home q
  region = (all_places_at c m).region

  -- no transition from s departs to a place that is idle or of another automaton
  none_to : (r : Place) → ((u : ℕ) → u < length c.transitions → (transition_at c u).source ≡ s → departure c u ≡ r → ⊥) → bearing_all c s r ≡ []
  unfolding bearing_all transitions concat
  none_to r f = ap (concat (bearing c r)) (keep_none _ (transitions c) (λ u k. fails _ (λ e. f u (below_at _ k) (eqb-true (transition_at c u).source s (and_l (eqb (transition_at c u).source s) _ e)) (same_place_at (departure c u) r (and_r (eqb (transition_at c u).source s) _ e)))))

  none_elsewhere : (r : Place) → place_home c r ≢ q → bearing_all c s r ≡ []
  unfolding home q
  none_elsewhere r d = none_to r (λ u l e f. d (ap (place_home c) (sym f) ∙ (departure_place c (passed_of T.chart) (ranges_of T.chart) u l).home_is ∙ ap (parent_of c) e))

  none_idle : (x : ℕ) → bearing_all c s (idle x) ≡ []
  unfolding departure arrival
  none_idle x = none_to (idle x) (λ u l e f. go u (has_exit c u) (has_entry c u) f)
    where
      go : (u : ℕ) (a b : Bool) → cond a (post u) (cond b (pre (record { state = (transition_at c u).destination; mark = (transition_at c u).entry })) (child (transition_at c u).destination)) ≡ idle x → ⊥
      go u true b f = let z : ◌≡◌ {A = ℕ} 0 1 = cc in omega arith
      go u false true f = let z : ◌≡◌ {A = ℕ} 0 1 = cc in omega arith
      go u false false f = let z : ◌≡◌ {A = ℕ} 0 1 = cc in omega arith

  -- the other places of the automaton
  others : List Place
  others = map child (children c q) ++ (map pre (pre_pairs c q) ++ map post (post_transitions c q))

  to_others : concat (to_place c s) others ≡ concat (bearing_all c s) others
  unfolding others to_place
  to_others =
      concat_append (to_place c s) (map child (children c q)) _
      ∙ ap₂ (λ (x y : List Edge). x ++ y) (concat_map (to_place c s) child (children c q) ∙ sym (concat_map (bearing_all c s) child (children c q)))
      (concat_append (to_place c s) (map pre (pre_pairs c q)) _
      ∙ ap₂ (λ (x y : List Edge). x ++ y) (concat_map (to_place c s) pre (pre_pairs c q) ∙ sym (concat_map (bearing_all c s) pre (pre_pairs c q)))
      (concat_map (to_place c s) post (post_transitions c q) ∙ sym (concat_map (bearing_all c s) post (post_transitions c q)))
      ∙ sym (concat_append (bearing_all c s) (map pre (pre_pairs c q)) _))
      ∙ sym (concat_append (bearing_all c s) (map child (children c q)) _)

  all_others : concat (bearing_all c s) (all_places c) ≡ concat (bearing_all c s) others
  unfolding all_places places others concat
  all_others =
      concat_concat (bearing_all c s) (places c) (sequentials c)
      ∙ concat_one (λ x. concat (bearing_all c s) (places c x)) (sequentials c) (sequentials_once c) _ (sequentials_by c region)
      (λ x k d. concat_none (bearing_all c s) (places c x) (λ r n. none_elsewhere r (λ e. d (sym (places_at c x n).0 ∙ e))))
      ∙ ap (λ (l : List Edge). l ++ concat (bearing_all c s) others) (none_idle q)

  child_edges : map (λ p. own_edge c (child s) (idle (parent_of c s)) (signalling 2 (exit_channel c p))) (heard_exits c s) ++ concat (bearing_all c s) (all_places c) ≡ from_place c (child s)
  unfolding from_place places others concat to_place q
  child_edges = ap (λ (l : List Edge). map (λ p. own_edge c (child s) (idle (parent_of c s)) (signalling 2 (exit_channel c p))) (heard_exits c s) ++ l) (all_others ∙ sym to_others)

  module _ (exits homes : List ℕ) (S : Spread c exits homes) (i : ℕ) (f : i ≡ number c (child s)) where
    known : s < size c
    unfolding place_home
    known = (all_places_at c m).stands.known

    pub idle_adds : {up low a first before : ℕ} {e : Ends} {b l : List ℕ} {n k : ℕ} → up ≡ get_or t.tree.parents s 0 → low ≡ get_or t.below s 0 → a ≡ get_or homes i 0 → first ≡ get_or t.firsts a 0
        → ((c : Chart) (p r : Place) → Flagged c exits homes t.initials → Mem p (all_places c) → Mem r (all_places c) → i ≡ number c p → first ≡ number c r → Joins c p r e)
        → (t.channels < 128 → t.enters.count < 128 → before ≡ t.channels + t.enters.count)
        → ((c : Chart) (s : ℕ) → HearsExits c s e t.tree.parents low up t.leaves.states t.leaves.marks t.leaves.count before → Adds b n l k (map (λ p. own_edge c (child s) (idle up) (signalling 2 (exit_channel c p))) (heard_exits c s)))
        → Adds b n l k (map (λ p. own_edge c (child s) (idle (parent_of c s)) (signalling 2 (exit_channel c p))) (heard_exits c s))
    unfolding place_home q
    idle_adds {up} {low} {a} {first} {before} {e} {b} {l} {n} {k} u w h z J B H =
        let ranges = ranges_of T.chart in
        let above : up ≡ parent_of c s = u ∙ parent_table c t exits homes T S s known in
        let owner : a ≡ automaton c (parent_of c s) = h ∙ ap (λ (x : ℕ). get_or homes x 0) f ∙ place_at_lem c (λ x. automaton c (place_home c x)) homes S.owners (all_places_at c m) in
        let number-of-idle : first ≡ number c (idle (parent_of c s)) = z ∙ ap (λ (x : ℕ). get_or t.firsts x 0) owner ∙ T.firsts _ (automaton_lt c region) ∙ ap (λ (x : ℕ). number c (idle x)) (region_of_automaton c region) in
        let joins : Joins c (child s) (idle (parent_of c s)) e = J c _ _ (flagged_of c t exits homes T S) m (all_places_by c (idle_place c region).is_place) f number-of-idle in
        let start : before ≡ c.rendezvous + c.broadcasts + length (enter_pairs c) = B (omega (arith, T.channels, ranges.channels_few)) (omega (arith, T.enters.count, T.enters.few)) ∙ ap₂ (λ (x y : ℕ). x + y) T.channels T.enters.count in
        let hears : HearsExits c s e t.tree.parents low up t.leaves.states t.leaves.marks t.leaves.count before = record {
          chart = T.chart;
          tree = rooted_tables c t exits homes T S;
          columns = pairs_of_lem _ _ T.leaves;
          channels = start;
          home_known = omega (arith, above, region.known);
          home_is = above;
          marked = λ x. ap (λ (y : ℕ). has y x) w ∙ T.below s x known;
          joins = subst (λ (x : ℕ). Joins c (child s) (idle x) e) (sym above) joins;
        } in
        subst (λ (x : ℕ). Adds b n l k (map (λ p. own_edge c (child s) (idle x) (signalling 2 (exit_channel c p))) (heard_exits c s))) above (H c s hears)

  pub child_adds : {b l g : List ℕ} {n k j : ℕ} → Adds b n l k (map (λ p. own_edge c (child s) (idle (parent_of c s)) (signalling 2 (exit_channel c p))) (heard_exits c s)) → Adds l k g j (concat (bearing_all c s) (all_places c)) → Adds b n g j (from_place c (child s))
  child_adds {b} {g = g} {n = n} {j = j} H A = subst (Adds b n g j) child_edges (adds_then H A)
