-- The check of a chart and its flattening as they were before sensors. Of the check, rule 7 was another; of flattening, the
-- five definitions in `Parts`. What depends on those five is restated over them, so that it stands here once, for the parts
-- as they were and as they are; all else is that of Rules.antt and Flatten.antt.
use Rattle.std.specs.Prelude.{ℕ, zero, suc, ◌+◌, ◌^◌, Bool, true, false, cond, not, ◌&&◌, ◌||◌, List, [], ◌∷◌, map, leb, eqb, get_or, length}
use Rattle.std.specs.Bool.{xor}
use Rattle.lists.specs.Lists.{has, all, keep, concat, bits_of}
use Rattle.reading.specs.Answer.{Answer, done, unless, ◌>>=◌}
use Rattle.labels.specs.Label.{Label}
use Rattle.clocks.specs.Clocks.{join, free}
use Rattle.chart_records.specs.Chart.{Chart, state_at, transition_at, states, parent_of, basic, parallel, read_chart}
use Rattle.chart_records.specs.Tree.{children, sequentials, entered}
use Rattle.chart_records.specs.Rules.{parents, few, entry_marks, exit_marks, transition_rules}
use Rattle.network_records.specs.Network.{Location, Edge, Network}
use Rattle.flattening.specs.Flatten.{Pair, Place, idle, child, pre, post, same_place, transitions, has_exit, enter_pairs, exit_pairs, places}
use Rattle.flattening.specs.Flatten.{all_places, number, automaton, place_home, join_all, own, arrival, at_exit, initial_place, sums_of, sorted}
use Rattle.flattening.specs.Flatten.{alternatives, enter_channel, exit_channel, signalling, exit_tested, departure, heard_exits, heard_entries, urgent_place}
use Rattle.flattening.specs.File.{network_bytes, fitted}

-- the check

-- 7, before: no basic child of a parallel state
abbrev pub no_basic_child : Chart → ℕ → Bool
no_basic_child c s = eqb s 0 || not (basic c s && parallel c (parent_of c s))

unfoldable pub no_basic : Chart → Bool
no_basic c = all (no_basic_child c) (states c)

unfoldable pub state_rules_before : Chart → Answer (Unit {0})
state_rules_before c =
    unless 5 (parents c)
    (unless 6 (few c)
    (unless 7 (no_basic c)
    (unless 8 (entry_marks c)
    (unless 9 (exit_marks c)
    (done tt)))))

unfoldable pub keeps_rules_before : Chart → Answer Chart
keeps_rules_before c = state_rules_before c >>= λ u. transition_rules c >>= λ v. done c

unfoldable pub chart_before : List ℕ → Answer Chart
chart_before file = read_chart file >>= keeps_rules_before

-- what sensors changed of flattening, with the text that it had

-- the bounds of a state
unfoldable pub own_before : Chart → ℕ → List ℕ
own_before c s = (state_at c s).bounds

unfoldable pub join_all_before : List (List ℕ) → List ℕ
join_all_before [] = free
join_all_before (r ∷ rs) = join r (join_all_before rs)

-- a place is at an exit when it is a basic child marked with it
unfoldable pub at_exit_before : Chart → Place → ℕ → Bool
at_exit_before c (idle q) e = false
at_exit_before c (child s) e = basic c s && has (state_at c s).exits e
at_exit_before c (pre p) e = false
at_exit_before c (post t) e = false

-- the sets of automata whose chosen child is basic, over the choices of a child for every sequential state met from s
-- down such that every basic state reached is marked e; at most n states down
unfoldable pub choices_before : ℕ → Chart → ℕ → ℕ → List ℕ
choices_before zero c e s = []
choices_before (suc n) c e s = elim (parallel c s) [
  | true ↦ sums_of (map (λ r. choices_before n c e r) (children c s))
  | false ↦ concat (λ r. elim (basic c r) [
    | true ↦ elim (has (state_at c r).exits e) [ true ↦ 2 ^ automaton c s ∷ [] | false ↦ [] ]
    | false ↦ choices_before n c e r
  ]) (children c s)
]

unfoldable pub alternatives_before : Chart → ℕ → ℕ → List ℕ
alternatives_before c m e = sorted (choices_before (length c.states) c e m)

-- an edge that bore a transition with an exit tested that exit, whatever the set of automata
unfoldable pub exit_tested_before : ℕ → ℕ → ℕ
exit_tested_before set exit = exit

-- the five, as they were and as they are
pub record Parts : Type 0 where
  pub own : ℕ → List ℕ
  pub join_all : List (List ℕ) → List ℕ
  pub at_exit : Place → ℕ → Bool
  pub alternatives : ℕ → ℕ → List ℕ
  pub exit_tested : ℕ → ℕ → ℕ

unfoldable pub before : Chart → Parts
before c = record { own = own_before c; join_all = join_all_before; at_exit = at_exit_before c; alternatives = alternatives_before c; exit_tested = exit_tested_before }

unfoldable pub now : Chart → Parts
now c = record { own = own c; join_all = join_all; at_exit = at_exit c; alternatives = alternatives c; exit_tested = exit_tested }

-- the network by such parts: each definition has the text of the one of its name in Flatten.antt, over the parts
module _ (c : Chart) (by : Parts) where
  unfoldable pub carried_from : ℕ → ℕ → List ℕ
  carried_from zero s = free
  carried_from (suc n) s =
      cond (eqb s 0) (by.own 0)
      (cond (parallel c (parent_of c s)) (join (by.own s) (carried_from n (parent_of c s))) free)

  unfoldable pub joined : ℕ → List ℕ
  joined s = join (by.own s) (carried_from (suc s) (parent_of c s))

  unfoldable pub pre_bounds : Pair → List ℕ
  pre_bounds p = by.join_all (map joined (keep (entered c p.state p.mark) (states c)))

  unfoldable pub arrival_bounds : Place → List ℕ
  arrival_bounds (idle q) = free
  arrival_bounds (child s) = joined s
  arrival_bounds (pre p) = pre_bounds p
  arrival_bounds (post t) = free

  unfoldable pub bounds_of : Place → List ℕ
  bounds_of (idle q) = free
  bounds_of (child s) = joined s
  bounds_of (pre p) = pre_bounds p
  bounds_of (post t) = arrival_bounds (arrival c t)

  unfoldable pub flag_at : ℕ → Place → ℕ → Bool
  flag_at q p e = xor (by.at_exit (initial_place c q) e) (by.at_exit p e)

  unfoldable pub written_by : Place → Place → ℕ
  written_by p r = bits_of (λ e. xor (by.at_exit p e) (by.at_exit r e)) 8

  unfoldable pub values_by : Place → Place → ℕ
  values_by p r = bits_of (λ e. xor (by.at_exit p e) (by.at_exit r e) && flag_at (place_home c r) r e) 8

  unfoldable pub on_values : ℕ → ℕ → ℕ
  on_values e set = bits_of (λ a. has set a && not (by.at_exit (initial_place c (get_or (sequentials c) a 0)) e)) 16

  unfoldable pub edge : Place → Place → ℕ → ℕ → ℕ → Label → Edge
  edge p r transition exit set l = record {
    source = number c p;
    target = number c r;
    transition = transition;
    exit = exit;
    tested = set;
    needed = cond (eqb exit 255) 0 (on_values exit set);
    written = written_by p r;
    values = values_by p r;
    label = l;
  }

  unfoldable pub own_edge : Place → Place → Label → Edge
  own_edge p r l = edge p r 255 255 0 l

  unfoldable pub bearing : Place → ℕ → List Edge
  bearing r t =
      let u = transition_at c t in
      cond (has_exit c t)
      (map (λ set. edge (child u.source) r t (by.exit_tested set u.exit) set u.label) (by.alternatives u.source u.exit))
      (edge (child u.source) r t 255 0 u.label ∷ [])

  unfoldable pub bearing_all : ℕ → Place → List Edge
  bearing_all s r = concat (bearing r) (keep (λ t. eqb (transition_at c t).source s && same_place (departure c t) r) (transitions c))

  unfoldable pub to_place : ℕ → Place → List Edge
  to_place s (idle q) = map (λ p. own_edge (child s) (idle q) (signalling 2 (exit_channel c p))) (heard_exits c s)
  to_place s (child d) = bearing_all s (child d)
  to_place s (pre p) = bearing_all s (pre p)
  to_place s (post t) = bearing_all s (post t)

  unfoldable pub from_place : Place → List Edge
  from_place (idle q) = concat (λ s. map (λ p. own_edge (idle q) (child s) (signalling 2 (enter_channel c p))) (heard_entries c s)) (children c q)
  from_place (child s) = concat (to_place s) (places c (parent_of c s))
  from_place (pre p) = own_edge (pre p) (child p.state) (signalling 1 (enter_channel c p)) ∷ []
  from_place (post t) =
      own_edge (post t) (arrival c t) (signalling 1 (exit_channel c (record { state = (transition_at c t).source; mark = (transition_at c t).exit }))) ∷ []

  unfoldable pub location_of : Place → Location
  location_of p = record {
    automaton = automaton c (place_home c p);
    urgent = urgent_place p;
    initial = cond (same_place p (initial_place c (place_home c p))) 1 0;
    bounds = bounds_of p;
  }

  unfoldable pub network_by : Network
  network_by = record {
    version = c.version;
    automata = length (sequentials c);
    clocks = c.clocks;
    variables = c.variables;
    rendezvous = c.rendezvous;
    broadcasts = c.broadcasts + length (enter_pairs c) + length (exit_pairs c);
    locations = map location_of (all_places c);
    edges = concat from_place (all_places c);
  }

-- flattening as an operation on files, before
unfoldable pub flatten_before : List ℕ → ℕ → Answer (List ℕ)
flatten_before file room = chart_before file >>= λ c.
    let n = network_by c (before c) in
    unless 15 (leb (length n.edges) 1024) (fitted room (network_bytes n))
