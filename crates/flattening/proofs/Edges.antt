-- The edges of a chart's network. `Leaves` says which edges leave a place; `edges_at` and `edges_by` that the network has just
-- these. Each joins the place that it leaves to a place of the same automaton (`source_of`, `target_of`).
use mathlib.Core.Path.{◌≡◌, refl, sym, ap, ◌∙◌, subst}
use mathlib.Core.Bool.{Bool, true, false, cond, ◌&&◌}
use mathlib.Core.Logic.{◌⊎◌, inl, inr, ⊎_elim, ◌≢◌}
use mathlib.Core.List.Memᴰ.{cast}
use mathlib.Core.List.Memᴰ.{eq_of_singleton}
use mathlib.Core.List.Memᴰ.{head as here}
use mathlib.Core.List.{[], ◌∷◌, map, Memᴰ as Mem}
use Prim.Native.Nat.{ℕ, ◌<◌}
use borrow.Author.Tests.{eqb-true, eq-eqb, ne_eqb}
use lib.Dec.{eqb}
use lib.ListN.{length}
use Rattle.lists.specs.Lists.{keep}
use Rattle.lists.proofs.Bools.{parts, both, cond_yes, cond_no}
use Rattle.lists.proofs.Lists.{keep_at, keep_by, map_at, map_by, get_d_mem, mem_get_d}
use Rattle.lists.proofs.Concat.{concat_at, concat_by}
use Rattle.lists.proofs.Below.{below_at, below_by}
use Rattle.chart_records.specs.Chart.{Chart, Transition, transition_at, parent_of, home}
use Rattle.chart_records.specs.Tree.{children}
use Rattle.chart_records.proofs.Tree.{Child, children_at, children_by}
use Rattle.chart_records.proofs.Rules.{Passed}
use Rattle.chart_records.proofs.Ranges.{Ranges}
use Rattle.network_records.specs.Network.{Edge, Network, location_at, edge_at, owner_of}
use Rattle.flattening.specs.Flatten.{Pair, Place, idle, child, pre, post, same_place, has_exit, has_entry, transitions, places, all_places, number}
use Rattle.flattening.specs.Flatten.{automaton, place_home, alternatives, enter_channel, exit_channel, signalling, edge, own_edge, exit_tested, arrival, departure}
use Rattle.flattening.specs.Flatten.{bearing, bearing_all, heard_exits, heard_entries, to_place, from_place, flatten}
use Rattle.flattening.proofs.Numbers.{IsPlace, PlaceOf, idle_place, child_place, same_place_at, same_place_by, places_at, places_by, all_places_at, all_places_by, automaton_of_place}
use Rattle.flattening.proofs.Arrivals.{arrival_place, departure_place}

-- an exit is tested where some automaton is
pub tested_some : (set e : ℕ) → set ≢ 0 → exit_tested set e ≡ e
unfolding exit_tested
tested_some set e d = cond_no 255 e (ne_eqb set 0 d)

pub tested_none : (set e : ℕ) → set ≡ 0 → exit_tested set e ≡ 255
unfolding exit_tested
tested_none set e z = cond_yes 255 e (eq-eqb set 0 z)

-- the exit that an edge bearing t tests, and the set of automata: an alternative, or none
abbrev pub Tests : Chart → ℕ → ℕ → ℕ → Type 0
Tests c t exit set =
    ((has_exit c t ≡ true) × (exit ≡ exit_tested set (transition_at c t).exit) × Mem set (alternatives c (transition_at c t).source (transition_at c t).exit))
    ⊎ ((has_exit c t ≡ false) × (exit ≡ 255) × (set ≡ 0))

-- e bears t, and goes from its source to r
pub record Bears (c : Chart) (t : ℕ) (r : Place) (e : Edge) : Type 0 where
  pub exit : ℕ
  pub set : ℕ
  pub tests : Tests c t exit set
  pub edge_is : e ≡ edge c (child (transition_at c t).source) r t exit set (transition_at c t).label

-- e takes q from idle to a child, hearing an entry
pub record HearsEntry (c : Chart) (q : ℕ) (e : Edge) : Type 0 where
  pub to : ℕ
  pub pair : Pair
  pub is_child_lem : Child c q to
  pub heard : Mem pair (heard_entries c to)
  pub edge_is : e ≡ own_edge c (idle q) (child to) (signalling 2 (enter_channel c pair))

-- e takes the parent of s from there to idle, hearing an exit
pub record HearsExit (c : Chart) (s : ℕ) (e : Edge) : Type 0 where
  pub pair : Pair
  pub heard : Mem pair (heard_exits c s)
  pub edge_is : e ≡ own_edge c (child s) (idle (parent_of c s)) (signalling 2 (exit_channel c pair))

-- e bears some transition from s
pub record BearsFrom (c : Chart) (s : ℕ) (e : Edge) : Type 0 where
  pub transition : ℕ
  pub known : transition < length c.transitions
  pub source_is : (transition_at c transition).source ≡ s
  pub bears : Bears c transition (departure c transition) e

-- e leaves a place
abbrev pub Leaves : Chart → Place → Edge → Type 0
Leaves c (idle q) e = HearsEntry c q e
Leaves c (child s) e = HearsExit c s e ⊎ BearsFrom c s e
Leaves c (pre p) e = e ≡ own_edge c (pre p) (child p.state) (signalling 1 (enter_channel c p))
Leaves c (post t) e = e ≡ own_edge c (post t) (arrival c t) (signalling 1 (exit_channel c (record { state = (transition_at c t).source; mark = (transition_at c t).exit })))

-- the edges that bear t
pub bearing_at : (c : Chart) (t : ℕ) (r : Place) {e : Edge} → Mem e (bearing c r t) → Bears c t r e
unfolding bearing
bearing_at c t r {e} m = go (has_exit c t) refl m
  where
    u : Transition
    u = transition_at c t

    go : (b : Bool) → has_exit c t ≡ b → Mem e (cond b (map (λ set. edge c (child u.source) r t (exit_tested set u.exit) set u.label) (alternatives c u.source u.exit)) (edge c (child u.source) r t 255 0 u.label ∷ [])) → Bears c t r e
    go true h k = let j = map_at _ (alternatives c u.source u.exit) k in record { exit = exit_tested j.0 u.exit; set = j.0; tests = inl (h, refl, j.1); edge_is = j.2 }
    go false h k = record { exit = 255; set = 0; tests = inr (h, refl, refl); edge_is = eq_of_singleton k }

pub bearing_by : (c : Chart) (t : ℕ) (r : Place) {e : Edge} → Bears c t r e → Mem e (bearing c r t)
unfolding bearing
bearing_by c t r {e} b = ⊎_elim
    (λ h. rw h.0 (cast (b.edge_is ∙ ap (λ (x : ℕ). edge c (child (transition_at c t).source) r t x b.set (transition_at c t).label) h.1) (map_by _ h.2)))
    (λ h. rw h.0 (here (b.edge_is ∙ ap (λ (x : ℕ). edge c (child (transition_at c t).source) r t x b.set (transition_at c t).label) h.1 ∙ ap (λ (x : ℕ). edge c (child (transition_at c t).source) r t 255 x (transition_at c t).label) h.2)))
    b.tests

module _ (c : Chart) (s : ℕ) where
  pub bearing_all_at : (r : Place) {e : Edge} → Mem e (bearing_all c s r) → (b : BearsFrom c s e) × (departure c b.transition ≡ r)
  unfolding bearing_all transitions
  bearing_all_at r {e} m =
      let k = concat_at (bearing c r) (keep (λ t. eqb (transition_at c t).source s && same_place (departure c t) r) (transitions c)) m in
      let j = keep_at (λ t. eqb (transition_at c t).source s && same_place (departure c t) r) (transitions c) k.1 in
      let h = j.1 in
      let d = same_place_at (departure c k.0) r (search parts) in
      (record { transition = k.0; known = below_at _ j.0; source_is = eqb-true (transition_at c k.0).source s (search parts); bears = subst (λ (x : Place). Bears c k.0 x e) (sym d) (bearing_at c k.0 r k.2) }, d)

  pub bearing_all_by : {e : Edge} (b : BearsFrom c s e) → Mem e (bearing_all c s (departure c b.transition))
  unfolding bearing_all transitions
  bearing_all_by b = concat_by (bearing c (departure c b.transition))
      (keep_by (λ t. eqb (transition_at c t).source s && same_place (departure c t) (departure c b.transition)) (transitions c) (below_by b.known) (both (eq-eqb _ s b.source_is) (same_place_by _)))
      (bearing_by c b.transition (departure c b.transition) b.bears)

  -- a transition's first place is no idle one
  to_departure : (t : ℕ) → to_place c s (departure c t) ≡ bearing_all c s (departure c t)
  unfolding departure arrival to_place
  to_departure t = go (has_exit c t) (has_entry c t)
    where
      to : Bool → Bool → Place
      to a b = cond a (post t) (cond b (pre (record { state = (transition_at c t).destination; mark = (transition_at c t).entry })) (child (transition_at c t).destination))

      go : (a b : Bool) → to_place c s (to a b) ≡ bearing_all c s (to a b)
      go true b = refl
      go false true = refl
      go false false = refl

  -- the edges from s to a place
  pub to_place_at : (r : Place) {e : Edge} → place_home c r ≡ parent_of c s → Mem e (to_place c s r) → Leaves c (child s) e
  unfolding to_place place_home
  to_place_at (idle q) {e} h m =
      let k = map_at _ (heard_exits c s) m in
      inl (record { pair = k.0; heard = k.1; edge_is = k.2 ∙ ap (λ (x : ℕ). own_edge c (child s) (idle x) (signalling 2 (exit_channel c k.0))) h })
  to_place_at (child d) h m = inr (bearing_all_at (child d) m).0
  to_place_at (pre p) h m = inr (bearing_all_at (pre p) m).0
  to_place_at (post t) h m = inr (bearing_all_at (post t) m).0

  pub hears_exit_by : {e : Edge} → HearsExit c s e → Mem e (to_place c s (idle (parent_of c s)))
  unfolding to_place
  hears_exit_by k = cast k.edge_is (map_by _ k.heard)

-- the edges from a place
pub from_place_at : (c : Chart) (p : Place) {e : Edge} → Mem e (from_place c p) → Leaves c p e
unfolding from_place
from_place_at c (idle q) m =
    let r = concat_at _ (children c q) m in
    let k = map_at _ (heard_entries c r.0) r.2 in
    record { to = r.0; pair = k.0; is_child_lem = children_at c q r.1; heard = k.1; edge_is = k.2 }
from_place_at c (child s) m = let r = concat_at (to_place c s) (places c (parent_of c s)) m in to_place_at c s r.0 (places_at c (parent_of c s) r.1).0 r.2
from_place_at c (pre p) m = eq_of_singleton m
from_place_at c (post t) m = eq_of_singleton m

module _ (c : Chart) (passed : Passed c) (ranges : Ranges c) where
  pub from_place_by : (p : Place) {e : Edge} → Leaves c p e → Mem e (from_place c p)
  unfolding from_place place_home home
  from_place_by (idle q) k = concat_by _ (children_by c k.is_child_lem) (cast k.edge_is (map_by _ k.heard))
  from_place_by (child s) {e} k = ⊎_elim
      (λ j. concat_by (to_place c s) (places_by c (parent_of c s) (idle (parent_of c s)) refl tt) (hears_exit_by c s j))
      (λ j. let d = departure_place c passed ranges j.transition j.known in
      concat_by (to_place c s) (places_by c (parent_of c s) (departure c j.transition) (d.home_is ∙ ap (parent_of c) j.source_is) d.is_place.stands) (rw (to_departure c s j.transition) (bearing_all_by c s j)))
      k
  from_place_by (pre p) k = here k
  from_place_by (post t) k = here k

  -- those from a place of the chart's automata are the network's
  pub edges_by : {p : Place} {e : Edge} → IsPlace c p → Leaves c p e → Mem e (flatten c).edges
  unfolding flatten
  edges_by {p} k l = concat_by (from_place c) (all_places_by c k) (from_place_by p l)

-- an edge's source is the number of the place that it leaves
pub source_of : (c : Chart) (p : Place) (e : Edge) → Leaves c p e → e.source ≡ number c p
unfolding edge own_edge
source_of c (idle q) e k = ap (λ (x : Edge). x.source) k.edge_is
source_of c (child s) e k = ⊎_elim (λ j. ap (λ (x : Edge). x.source) j.edge_is) (λ j. ap (λ (x : Edge). x.source) j.bears.edge_is ∙ ap (λ (x : ℕ). number c (child x)) j.source_is) k
source_of c (pre p) e k = ap (λ (x : Edge). x.source) k
source_of c (post t) e k = ap (λ (x : Edge). x.source) k

-- the edges of the network: those from its places
pub edges_at : (c : Chart) {e : Edge} → Mem e (flatten c).edges → (p : Place) × IsPlace c p × Leaves c p e
unfolding flatten
edges_at c m = let r = concat_at (from_place c) (all_places c) m in (r.0, all_places_at c r.1, from_place_at c r.0 r.2)

-- its owner is the automaton of that place's home
pub owner_of_lem : (c : Chart) (p : Place) (e : Edge) → IsPlace c p → Leaves c p e → owner_of (flatten c) e ≡ automaton c (place_home c p)
unfolding owner_of
owner_of_lem c p e k l = ap (λ (i : ℕ). (location_at (flatten c) i).automaton) (source_of c p e l) ∙ automaton_of_place c k

-- its target is the number of a place of the same automaton
pub target_of : (c : Chart) → Passed c → Ranges c → (p : Place) (e : Edge) → IsPlace c p → Leaves c p e → (r : Place) × PlaceOf c (place_home c p) r × (e.target ≡ number c r)
unfolding edge own_edge place_home home
target_of c passed ranges (idle q) e k l = (child l.to, child_place c k.region l.is_child_lem, ap (λ (x : Edge). x.target) l.edge_is)
target_of c passed ranges (child s) e k l = ⊎_elim
    (λ j. (idle (parent_of c s), idle_place c k.region, ap (λ (x : Edge). x.target) j.edge_is))
    (λ j. (departure c j.transition, subst (λ (q : ℕ). PlaceOf c q (departure c j.transition)) (ap (parent_of c) j.source_is) (departure_place c passed ranges j.transition j.known), ap (λ (x : Edge). x.target) j.bears.edge_is))
    l
target_of c passed ranges (pre p) e k l = (child p.state, child_place c k.region k.stands.0, ap (λ (x : Edge). x.target) l)
target_of c passed ranges (post t) e k l = (arrival c t, arrival_place c passed ranges t k.stands.0, ap (λ (x : Edge). x.target) l)

-- its label is a transition's, or only signals
pub label_of : (c : Chart) (p : Place) (e : Edge) → IsPlace c p → Leaves c p e
    → ((t : ℕ) × (t < length c.transitions) × (e.label ≡ (transition_at c t).label)) ⊎ ((signal : ℕ) × (channel : ℕ) × (e.label ≡ signalling signal channel))
unfolding edge own_edge
label_of c (idle q) e k l = inr (2, enter_channel c l.pair, ap (λ (x : Edge). x.label) l.edge_is)
label_of c (child s) e k l = ⊎_elim
    (λ j. inr (2, exit_channel c j.pair, ap (λ (x : Edge). x.label) j.edge_is))
    (λ j. inl (j.transition, j.known, ap (λ (x : Edge). x.label) j.bears.edge_is))
    l
label_of c (pre p) e k l = inr (1, enter_channel c p, ap (λ (x : Edge). x.label) l)
label_of c (post t) e k l = inr (1, exit_channel c (record { state = (transition_at c t).source; mark = (transition_at c t).exit }), ap (λ (x : Edge). x.label) l)

-- the edges of a network by their numbers
pub edge_at_mem : (n : Network) (m : ℕ) → m < length n.edges → Mem (edge_at n m) n.edges
unfolding edge_at
edge_at_mem n m h = get_d_mem n.edges m _ h

pub mem_edge_at : (n : Network) {e : Edge} → Mem e n.edges → (m : ℕ) × (m < length n.edges) × (edge_at n m ≡ e)
unfolding edge_at
mem_edge_at n m = mem_get_d _ m
