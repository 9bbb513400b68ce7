-- The check and flattening before sensors, and that charts which passed then are flattened as they were. For each definition
-- that sensors changed there is a law that it is its former text where no parallel state has a basic child: `rule_without`,
-- `own_without`, `join_all_before_lem`, `at_exit_without`, `choices_without`, `tested_without`, `bearing_without`. From them the
-- network is the same (`network_before`), and so is what flattening answers (`flatten_before_lem`). That the restatement over
-- parts is the flattening is `now_is_flatten`.
use mathlib.Core.Path.{◌≡◌, refl, sym, ap, ◌∙◌, subst}
use mathlib.Core.Bool.{Bool, true, false, cond, not, ◌&&◌, xor}
use mathlib.Core.Logic.{⊎_elim}
use mathlib.Core.List.Memᴰ.{head as here}
use mathlib.Core.List.Memᴰ.{tail as there}
use mathlib.Core.List.{List, [], ◌∷◌, map, Memᴰ as Mem}
use Prim.Native.Nat.{ℕ, zero, suc, ◌+◌, ◌-◌, ◌^◌, ◌≤◌, ◌<◌}
use native.Mathlib.Omega.{arith}
use native.Mathlib.Decide.{ℕ_discrete}
use borrow.Author.Tests.{eq-eqb, ne_eqb, le-leb, not-true}
use lib.Dec.{leb, eqb}
use lib.ListN.{length, get_or}
use Rattle.lists.specs.Lists.{has, keep, concat, bits_of}
use Rattle.reading.specs.Answer.{Answer, done, unless, ◌>>=◌}
use Rattle.labels.specs.Label.{Label}
use Rattle.clocks.specs.Clocks.{join, free}
use Rattle.lists.proofs.Bools.{clash, decided, fails, and_l, and_r, both, or_l, or_r, or_else, not_yes}
use Rattle.lists.proofs.Lists.{all_at, all_by, keep_at, map_same, mem_some}
use Rattle.lists.proofs.Below.{below_at}
use Rattle.lists.proofs.Concat.{concat_same}
use Rattle.lists.proofs.Bits.{has_zero}
use Rattle.reading.proofs.Answer.{unless_at, then_at, done_injective}
use Rattle.chart_records.specs.Chart.{Chart, Transition, read_chart, state_at, transition_at, states, parent_of, basic, sequential, parallel}
use Rattle.chart_records.specs.Tree.{children, sequentials, fixed, shares, entered}
use Rattle.chart_records.specs.Rules.{parents, few, some_sequential, entry_marks, exit_marks, state_rules, transition_rules, keeps_rules, chart_of}
use Rattle.chart_records.proofs.Tree.{size, states_at, states_by, Child, children_at, own_child, Parents, parents_at, child_above}
use Rattle.chart_records.proofs.Fixed.{NoSensors, fixed_without, sensors_without, shares_basic}
use Rattle.chart_records.proofs.Rules.{Passed, passed_at, Kinds, kinds_left}
use Rattle.chart_records.proofs.Ranges.{Ranges, read_range, chart_at_lem, kinds_of}
use Rattle.network_records.specs.Network.{Edge, Network}
use Rattle.flattening.specs.Flatten.{Pair, Place, idle, child, pre, post, same_place, transitions, has_exit, enter_pairs, exit_pairs, places}
use Rattle.flattening.specs.Flatten.{all_places, number, automaton, place_home, join_onto, join_all, own_from, own, carried_from, joined, pre_bounds}
use Rattle.flattening.specs.Flatten.{arrival, arrival_bounds, bounds_of, at_exit, marked_child, initial_place, flag_at, written_by, values_by}
use Rattle.flattening.specs.Flatten.{sums_of, choices_from, sorted, alternatives, on_values, enter_channel, exit_channel, signalling, edge, own_edge}
use Rattle.flattening.specs.Flatten.{exit_tested, bearing, bearing_all, heard_exits, heard_entries, to_place, from_place, urgent_place, location_of, flatten}
use Rattle.flattening.specs.File.{network_bytes, fitted, flatten_of}
use Rattle.flattening.specs.Before.{no_basic_child, no_basic, state_rules_before, keeps_rules_before, chart_before, own_before, join_all_before}
use Rattle.flattening.specs.Before.{at_exit_before, choices_before, alternatives_before, exit_tested_before, Parts, before, now, network_by, flatten_before}
use Rattle.flattening.specs.Before as by
use Rattle.flattening.proofs.Automata.{sequentials_by}
use Rattle.flattening.proofs.Sums.{sorted_at}
use Rattle.flattening.proofs.Alternatives.{choices_of, choices_parallel, choices_sequential, drawn}
use Rattle.flattening.proofs.Numbers.{Stands, IsPlace, places_at, all_places_at}
use Rattle.flattening.proofs.Arrivals.{ends, source_composite, arrival_place}
use Rattle.flattening.proofs.Edges.{tested_some}

-- rule 7

-- it just said that no parallel state has a basic child
pub rule_before : (c : Chart) → no_basic c ≡ true → NoSensors c
unfolding no_basic
rule_before c h q s k p =
    let r = or_else (eqb s 0) _ (all_at (no_basic_child c) (states c) h (states_by c k.known)) (ne_eqb s 0 k.below_root) in
    fails (basic c s) (λ b. clash (both b (ap (parallel c) k.parent_is ∙ p)) (not-true (basic c s && parallel c (parent_of c s)) r))

pub before_rule : (c : Chart) → NoSensors c → no_basic c ≡ true
unfolding no_basic
before_rule c without = all_by (no_basic_child c) (states c) (λ s m. elim (ℕ_discrete s 0) [
  | yes z ↦ or_l _ (eq-eqb s 0 z)
  | no d ↦ or_r (eqb s 0) (not_yes (fails (basic c s && parallel c (parent_of c s)) (λ h.
      clash (and_l (basic c s) _ h) (without (parent_of c s) s (own_child c (states_at c m) d) (and_r (basic c s) _ h)))))
])

-- then some state is sequential, as rule 7 now asks: the last state is basic, and so its parent is not parallel
module _ (c : Chart) (tree : Parents c) (kinds : Kinds c) (some : 2 ≤ size c) (without : NoSensors c) where
  last : ℕ
  last = size c - 1

  last_child : Child c (parent_of c last) last
  unfolding last
  last_child = own_child c (omega arith) (λ e. omega arith)

  last_basic : basic c last ≡ true
  unfolding last
  last_basic = ⊎_elim (λ b. b)
      (λ b. let k = tree.fertile last last_child.known b in absurd (omega (arith, k.1.known, child_above c tree k.1)))
      (decided (basic c last))

  parent_known : parent_of c last < size c
  parent_known = omega (arith, last_child.known, child_above c tree last_child)

  parent_sequential : sequential c (parent_of c last) ≡ true
  parent_sequential = kinds_left c kinds (parent_of c last) parent_known (tree.composite last last_child.known last_child.below_root)
      (fails (parallel c (parent_of c last)) (λ p. clash last_basic (without (parent_of c last) last last_child p)))

  some_sequential_lem : some_sequential c ≡ true
  unfolding some_sequential
  some_sequential_lem = le-leb 1 _ (mem_some (sequentials_by c (record { known = parent_known; is_sequential = parent_sequential })))

  pub rule_without : some_sequential c ≡ no_basic c
  rule_without = some_sequential_lem ∙ sym (before_rule c without)

-- so the check is the same, refusals included
module _ (c : Chart) (kinds : Kinds c) (some : 2 ≤ size c) (without : NoSensors c) where
  state_rules_without : state_rules c ≡ state_rules_before c
  unfolding state_rules state_rules_before unless
  state_rules_without = go (parents c) refl
    where
      after : Bool → Answer (Unit {0})
      after b = unless 6 (few c) (unless 7 b (unless 8 (entry_marks c) (unless 9 (exit_marks c) (done tt))))

      go : (b : Bool) → parents c ≡ b → unless 5 b (after (some_sequential c)) ≡ unless 5 b (after (no_basic c))
      go true h = ap after (rule_without c (parents_at c h) kinds some without)
      go false h = refl

  pub rules_without : keeps_rules c ≡ keeps_rules_before c
  unfolding keeps_rules keeps_rules_before
  rules_without = ap (λ (a : Answer (Unit {0})). a >>= λ u. transition_rules c >>= λ v. done c) state_rules_without

pub chart_without : (file : List ℕ) {c : Chart} → read_chart file ≡ done c → NoSensors c → chart_of file ≡ chart_before file
unfolding chart_of chart_before ◌>>=◌
chart_without file {c} h without =
    let r = read_range file h in
    ap (λ (a : Answer Chart). a >>= keeps_rules) h
    ∙ rules_without c (kinds_of r) r.states_some without
    ∙ sym (ap (λ (a : Answer Chart). a >>= keeps_rules_before) h)

-- what the former rules said of a chart that they let pass
rules_before_at : (c : Chart) {d : Chart} → keeps_rules_before c ≡ done d → NoSensors c × (c ≡ d)
unfolding keeps_rules_before state_rules_before
rules_before_at c h =
    let a = then_at (state_rules_before c) _ h in
    let b = then_at (transition_rules c) _ a.2 in
    let r = unless_at 7 _ _ (unless_at 6 _ _ (unless_at 5 _ _ a.1).1).1 in
    (rule_before c r.0, done_injective b.2)

-- the charts that passed before are those that pass and have no basic child of a parallel state
pub passed_before : (file : List ℕ) {c : Chart} → chart_before file ≡ done c → (chart_of file ≡ done c) × NoSensors c
unfolding chart_before
passed_before file h =
    let r = then_at (read_chart file) keeps_rules_before h in
    let k = rules_before_at r.0 r.2 in
    (chart_without file r.1 k.0 ∙ h, subst NoSensors k.1 k.0)

pub before_passed : (file : List ℕ) {c : Chart} → chart_of file ≡ done c → NoSensors c → chart_before file ≡ done c
unfolding chart_of
before_passed file h without =
    let r = then_at (read_chart file) keeps_rules h in
    sym (chart_without file r.1 (subst NoSensors (sym (passed_at r.0 r.2).1) without)) ∙ h

-- the changed definitions of flattening

-- rows joined: of this the text alone changed
pub join_all_before_lem : (rs : List (List ℕ)) → join_all rs ≡ join_all_before rs
unfolding join_all join_onto join_all_before
join_all_before_lem [] = refl
join_all_before_lem (r ∷ rs) = ap (join r) (join_all_before_lem rs)

-- the choices by a child: where it is an end, one set if it is marked; else those below it
abbrev chosen : ℕ → Bool → Bool → List ℕ → List ℕ
chosen set end marked rest = elim end [ true ↦ elim marked [ true ↦ set ∷ [] | false ↦ [] ] | false ↦ rest ]

-- those that the child r gave s, if s is sequential
unfoldable choices_of_before : ℕ → Chart → ℕ → ℕ → ℕ → List ℕ
choices_of_before n c e s r = chosen (2 ^ automaton c s) (basic c r) (has (state_at c r).exits e) (choices_before n c e r)

module _ (n : ℕ) (c : Chart) (e s : ℕ) where
  before_parallel : parallel c s ≡ true → choices_before (suc n) c e s ≡ sums_of (map (choices_before n c e) (children c s))
  unfolding choices_before
  before_parallel h = rw (h, choices_before)

  before_sequential : parallel c s ≡ false → choices_before (suc n) c e s ≡ concat (choices_of_before n c e s) (children c s)
  unfolding choices_before choices_of_before
  before_sequential h = rw (h, choices_before)

module _ (c : Chart) (tree : Parents c) (kinds : Kinds c) (without : NoSensors c) where
  fixed_is_basic : (s : ℕ) → s < size c → fixed c s ≡ basic c s
  fixed_is_basic = fixed_without c tree (kinds_left c kinds) without

  -- no state has sensors whose bounds it would have
  own_from_without : (n s : ℕ) → own_from n c s ≡ (state_at c s).bounds
  unfolding own_from join_onto
  own_from_without zero s = refl
  own_from_without (suc n) s =
      ap (λ (rs : List ℕ). join_onto (state_at c s).bounds (map (own_from n c) rs)) (sensors_without c tree (kinds_left c kinds) without s)

  pub own_without : (s : ℕ) → own c s ≡ own_before c s
  unfolding own own_before
  own_without s = own_from_without (size c) s

  pub at_exit_without : (s e : ℕ) → s < size c → at_exit c (child s) e ≡ at_exit_before c (child s) e
  unfolding at_exit at_exit_before
  at_exit_without s e h = ap (λ (b : Bool). b && shares c e s) (fixed_is_basic s h) ∙ go (basic c s) refl
    where
      go : (b : Bool) → basic c s ≡ b → (b && shares c e s) ≡ (b && has (state_at c s).exits e)
      go true z = shares_basic c tree e s h z
      go false z = refl

  module _ (e : ℕ) where
    -- the choices below r, as they are and as they were
    abbrev SameChoices : ℕ → ℕ → Type 0
    SameChoices n r = r < size c → basic c r ≡ false → choices_from n c e r ≡ choices_before n c e r

    of_without : (n s r : ℕ) → r < size c → SameChoices n r → choices_of n c e s r ≡ choices_of_before n c e s r
    unfolding choices_of choices_of_before
    of_without n s r h f = ap (λ (b : Bool). chosen (2 ^ automaton c s) b (shares c e r) (choices_from n c e r)) (fixed_is_basic r h) ∙ go (basic c r) refl
      where
        go : (b : Bool) → basic c r ≡ b →
            chosen (2 ^ automaton c s) b (shares c e r) (choices_from n c e r)
            ≡ chosen (2 ^ automaton c s) b (has (state_at c r).exits e) (choices_before n c e r)
        go true z = ap (λ (x : Bool). chosen (2 ^ automaton c s) true x []) (shares_basic c tree e r h z)
        go false z = f h z

    choices_step : (n m : ℕ) → ((r : ℕ) → SameChoices n r) → SameChoices (suc n) m
    choices_step n m f h b = ⊎_elim in_parallel in_sequential (decided (parallel c m))
      where
        unfixed : fixed c m ≡ false
        unfixed = fixed_is_basic m h ∙ b

        lower : parallel c m ≡ true → (r : ℕ) → Mem r (children c m) → choices_from n c e r ≡ choices_before n c e r
        lower p r j = let k = children_at c m j in f r k.known (without m r k p)

        in_parallel : parallel c m ≡ true → choices_from (suc n) c e m ≡ choices_before (suc n) c e m
        in_parallel p =
            choices_parallel n c e m unfixed p
            ∙ ap sums_of (map_same (choices_from n c e) (choices_before n c e) (children c m) (lower p))
            ∙ sym (before_parallel n c e m p)

        in_sequential : parallel c m ≡ false → choices_from (suc n) c e m ≡ choices_before (suc n) c e m
        in_sequential p =
            choices_sequential n c e m unfixed p
            ∙ concat_same (choices_of n c e m) (choices_of_before n c e m) (children c m) (λ r j. of_without n m r (children_at c m j).known (f r))
            ∙ sym (before_sequential n c e m p)

    -- the choices from a composite state down; a basic one was never asked
    pub choices_without : (n m : ℕ) → m < size c → basic c m ≡ false → choices_from n c e m ≡ choices_before n c e m
    unfolding choices_from choices_before
    choices_without zero m h b = refl
    choices_without (suc n) m h b = choices_step n m (choices_without n) h b

    pub alternatives_without : (m : ℕ) → m < size c → basic c m ≡ false → alternatives c m e ≡ alternatives_before c m e
    unfolding alternatives alternatives_before
    alternatives_without m h b = ap sorted (choices_without (size c) m h b)

    -- every alternative of a composite state has an automaton, so the exit itself is tested
    pub tested_without : (m set : ℕ) → m < size c → basic c m ≡ false → Mem set (alternatives c m e) → exit_tested set e ≡ exit_tested_before set e
    unfolding alternatives exit_tested_before
    tested_without m set h b j =
        let d = (drawn c tree (kinds_left c kinds) e (size c) m set h (sorted_at _ j)).some (fixed_is_basic m h ∙ b) in
        tested_some set e (λ z. clash d.3 (ap (λ (x : ℕ). has x (automaton c d.0)) z ∙ has_zero (automaton c d.0)))

-- the network by parts: its locations

-- where own bounds and their joins are those of today, so are all bounds
module _ (c : Chart) (parts : Parts) (owns : (s : ℕ) → parts.own s ≡ own c s) (joins : (l : List (List ℕ)) → parts.join_all l ≡ join_all l) where
  carried_alike : (n s : ℕ) → by.carried_from c parts n s ≡ carried_from n c s
  unfolding by.carried_from carried_from
  carried_alike zero s = refl
  carried_alike (suc n) s =
      λ i. cond (eqb s 0) (owns 0 i) (cond (parallel c (parent_of c s)) (join (owns s i) (carried_alike n (parent_of c s) i)) free)

  joined_alike : (s : ℕ) → by.joined c parts s ≡ joined c s
  unfolding by.joined joined
  joined_alike s = λ i. join (owns s i) (carried_alike (suc s) (parent_of c s) i)

  pre_alike : (p : Pair) → by.pre_bounds c parts p ≡ pre_bounds c p
  unfolding by.pre_bounds pre_bounds
  pre_alike p = joins _ ∙ (λ i. join_all (map (λ s. joined_alike s i) (keep (entered c p.state p.mark) (states c))))

  arrival_alike : (p : Place) → by.arrival_bounds c parts p ≡ arrival_bounds c p
  unfolding by.arrival_bounds arrival_bounds
  arrival_alike (idle q) = refl
  arrival_alike (child s) = joined_alike s
  arrival_alike (pre p) = pre_alike p
  arrival_alike (post t) = refl

  bounds_alike : (p : Place) → by.bounds_of c parts p ≡ bounds_of c p
  unfolding by.bounds_of bounds_of
  bounds_alike (idle q) = refl
  bounds_alike (child s) = joined_alike s
  bounds_alike (pre p) = pre_alike p
  bounds_alike (post t) = arrival_alike (arrival c t)

  location_alike : (p : Place) → by.location_of c parts p ≡ location_of c p
  unfolding by.location_of location_of
  location_alike p = λ i. record {
    automaton = automaton c (place_home c p);
    urgent = urgent_place p;
    initial = cond (same_place p (initial_place c (place_home c p))) 1 0;
    bounds = bounds_alike p i;
  }

  -- so the network is the chart's, if the edges from its places are
  network_by_edges : ((p : Place) → Mem p (all_places c) → by.from_place c parts p ≡ from_place c p) → network_by c parts ≡ flatten c
  unfolding network_by flatten
  network_by_edges edges = λ i. record {
    version = c.version;
    automata = length (sequentials c);
    clocks = c.clocks;
    variables = c.variables;
    rendezvous = c.rendezvous;
    broadcasts = c.broadcasts + length (enter_pairs c) + length (exit_pairs c);
    locations = map (λ p. location_alike p i) (all_places c);
    edges = concat_same (by.from_place c parts) (from_place c) (all_places c) edges i;
  }

-- by the parts of today it is the flattening: their texts are the same
module _ (c : Chart) where
  to_now : (s : ℕ) (r : Place) → by.to_place c (now c) s r ≡ to_place c s r
  unfolding
      now by.to_place to_place by.bearing_all bearing_all by.bearing bearing by.own_edge own_edge by.edge edge by.on_values on_values by.values_by values_by
      by.written_by written_by by.flag_at flag_at
  to_now s (idle q) = refl
  to_now s (child d) = refl
  to_now s (pre p) = refl
  to_now s (post t) = refl

  from_now : (p : Place) → by.from_place c (now c) p ≡ from_place c p
  unfolding
      now by.from_place from_place by.own_edge own_edge by.edge edge by.on_values on_values by.values_by values_by by.written_by written_by by.flag_at flag_at
  from_now (idle q) = refl
  from_now (child s) = λ i. concat (λ r. to_now s r i) (places c (parent_of c s))
  from_now (pre p) = refl
  from_now (post t) = refl

  pub now_is_flatten : network_by c (now c) ≡ flatten c
  unfolding now
  now_is_flatten = network_by_edges c (now c) (λ s. refl) (λ rs. refl) (λ p m. from_now p)

-- the network by parts: its edges

-- the state of a child is one of the chart's
abbrev Known : Chart → Place → Type 0
Known c (idle q) = Unit {0}
Known c (child s) = s < size c
Known c (pre p) = Unit {0}
Known c (post t) = Unit {0}

known_stands : (c : Chart) (p : Place) → Stands c p → Known c p
known_stands c (idle q) k = tt
known_stands c (child s) k = k.known
known_stands c (pre p) k = tt
known_stands c (post t) k = tt

-- the first of some numbers below k, or 0
first_below : {k : ℕ} → 0 < k → (xs : List ℕ) → ((x : ℕ) → Mem x xs → x < k) → get_or xs 0 0 < k
first_below h [] f = h
first_below h (x ∷ xs) f = f x (here refl)

known_marked : (c : Chart) → 0 < size c → (q e : ℕ) → marked_child c q e < size c
unfolding marked_child
known_marked c some q e = first_below some _ (λ s m. (children_at c q (keep_at (λ s. has (state_at c s).entries e) (children c q) m).0).known)

known_initial : (c : Chart) → 0 < size c → (q : ℕ) → Known c (initial_place c q)
unfolding initial_place
known_initial c some q = go (entered c 0 0 q)
  where
    go : (b : Bool) → Known c (cond b (child (marked_child c q 0)) (idle q))
    go true = known_marked c some q 0
    go false = tt

-- parts with the exits of today, as far as flattening meets them: at which a place is, and what of them is tested
record Alike (c : Chart) (parts : Parts) : Type 0 where
  at_alike : (p : Place) → Known c p → (e : ℕ) → parts.at_exit p e ≡ at_exit c p e
  sets_alike : (m e : ℕ) → m < size c → basic c m ≡ false → parts.alternatives m e ≡ alternatives c m e
  tested_alike : (m e set : ℕ) → m < size c → basic c m ≡ false → Mem set (alternatives c m e) → parts.exit_tested set e ≡ exit_tested set e

module _ (c : Chart) (some : 0 < size c) (parts : Parts) (alike : Alike c parts) where
  initial_alike : (q e : ℕ) → parts.at_exit (initial_place c q) e ≡ at_exit c (initial_place c q) e
  initial_alike q e = alike.at_alike (initial_place c q) (known_initial c some q) e

  flag_alike : (q : ℕ) (p : Place) → Known c p → (e : ℕ) → by.flag_at c parts q p e ≡ flag_at c q p e
  unfolding by.flag_at flag_at
  flag_alike q p k e = λ i. xor (initial_alike q e i) (alike.at_alike p k e i)

  written_alike : (p r : Place) → Known c p → Known c r → by.written_by c parts p r ≡ written_by c p r
  unfolding by.written_by written_by
  written_alike p r k j = λ i. bits_of (λ e. xor (alike.at_alike p k e i) (alike.at_alike r j e i)) 8

  values_alike : (p r : Place) → Known c p → Known c r → by.values_by c parts p r ≡ values_by c p r
  unfolding by.values_by values_by
  values_alike p r k j = λ i. bits_of (λ e. xor (alike.at_alike p k e i) (alike.at_alike r j e i) && flag_alike (place_home c r) r j e i) 8

  on_alike : (e set : ℕ) → by.on_values c parts e set ≡ on_values c e set
  unfolding by.on_values on_values
  on_alike e set = λ i. bits_of (λ a. has set a && not (initial_alike (get_or (sequentials c) a 0) e i)) 16

  edge_alike : (p r : Place) → Known c p → Known c r → (transition exit set : ℕ) (l : Label)
      → by.edge c parts p r transition exit set l ≡ edge c p r transition exit set l
  unfolding by.edge edge
  edge_alike p r k j transition exit set l = λ i. record {
    source = number c p;
    target = number c r;
    transition = transition;
    exit = exit;
    tested = set;
    needed = cond (eqb exit 255) 0 (on_alike exit set i);
    written = written_alike p r k j i;
    values = values_alike p r k j i;
    label = l;
  }

  own_edge_alike : (p r : Place) → Known c p → Known c r → (l : Label) → by.own_edge c parts p r l ≡ own_edge c p r l
  unfolding by.own_edge own_edge
  own_edge_alike p r k j l = edge_alike p r k j 255 255 0 l

  -- the edges that bear a transition with an exit, one for each alternative
  module _ (r : Place) (t : ℕ) (u : Transition) (j : Known c r) (from : u.source < size c) where
    abbrev born_by : ℕ → Edge
    born_by set = by.edge c parts (child u.source) r t (parts.exit_tested set u.exit) set u.label

    abbrev born : ℕ → Edge
    born set = edge c (child u.source) r t (exit_tested set u.exit) set u.label

    born_alike : (set : ℕ) → parts.exit_tested set u.exit ≡ exit_tested set u.exit → born_by set ≡ born set
    born_alike set e =
        ap (λ (x : ℕ). by.edge c parts (child u.source) r t x set u.label) e
        ∙ edge_alike (child u.source) r from j t (exit_tested set u.exit) set u.label

    all_born_alike : basic c u.source ≡ false
        → map born_by (parts.alternatives u.source u.exit) ≡ map born (alternatives c u.source u.exit)
    all_born_alike b =
        ap (map born_by) (alike.sets_alike u.source u.exit from b)
        ∙ map_same born_by born _ (λ set m. born_alike set (alike.tested_alike u.source u.exit set from b m))

  bearing_alike : (r : Place) (t : ℕ) → Known c r → (transition_at c t).source < size c
      → (has_exit c t ≡ true → basic c (transition_at c t).source ≡ false) → by.bearing c parts r t ≡ bearing c r t
  unfolding by.bearing bearing
  bearing_alike r t j from composite = go (has_exit c t) composite
    where
      u : Transition
      u = transition_at c t

      go : (b : Bool) → (b ≡ true → basic c u.source ≡ false) →
          cond b (map (born_by r t u j from) (parts.alternatives u.source u.exit)) (by.edge c parts (child u.source) r t 255 0 u.label ∷ [])
          ≡ cond b (map (born r t u j from) (alternatives c u.source u.exit)) (edge c (child u.source) r t 255 0 u.label ∷ [])
      go true f = all_born_alike r t u j from (f refl)
      go false f = λ i. edge_alike (child u.source) r from j t 255 0 u.label i ∷ []

  module _ (passed : Passed c) (ranges : Ranges c) where
    bearing_known : (r : Place) (t : ℕ) → t < length c.transitions → Known c r → by.bearing c parts r t ≡ bearing c r t
    bearing_known r t h k = bearing_alike r t k (ends c passed ranges t h).from.known (source_composite c passed ranges t h)

    bearing_all_alike : (s : ℕ) (r : Place) → Known c r → by.bearing_all c parts s r ≡ bearing_all c s r
    unfolding by.bearing_all bearing_all transitions
    bearing_all_alike s r k = concat_same (by.bearing c parts r) (bearing c r) _
        (λ t m. bearing_known r t (below_at _ (keep_at _ (transitions c) m).0) k)

    to_alike : (s : ℕ) → s < size c → (r : Place) → Known c r → by.to_place c parts s r ≡ to_place c s r
    unfolding by.to_place to_place
    to_alike s h (idle q) k = λ i. map (λ p. own_edge_alike (child s) (idle q) h tt (signalling 2 (exit_channel c p)) i) (heard_exits c s)
    to_alike s h (child d) k = bearing_all_alike s (child d) k
    to_alike s h (pre p) k = bearing_all_alike s (pre p) k
    to_alike s h (post t) k = bearing_all_alike s (post t) k

    from_alike : (p : Place) → IsPlace c p → by.from_place c parts p ≡ from_place c p
    unfolding by.from_place from_place
    from_alike (idle q) k = concat_same _ _ (children c q)
        (λ s m. λ i. map (λ p. own_edge_alike (idle q) (child s) tt (children_at c q m).known (signalling 2 (enter_channel c p)) i) (heard_entries c s))
    from_alike (child s) k = concat_same (by.to_place c parts s) (to_place c s) (places c (parent_of c s))
        (λ r m. to_alike s k.stands.known r (known_stands c r (places_at c (parent_of c s) m).1))
    from_alike (pre p) k = λ i. own_edge_alike (pre p) (child p.state) tt k.stands.0.known (signalling 1 (enter_channel c p)) i ∷ []
    from_alike (post t) k =
        let j = known_stands c (arrival c t) (arrival_place c passed ranges t k.stands.0).is_place.stands in
        let left : Pair = record { state = (transition_at c t).source; mark = (transition_at c t).exit } in
        λ i. own_edge_alike (post t) (arrival c t) tt j (signalling 1 (exit_channel c left)) i ∷ []

-- where no parallel state has a basic child, the network is what it was
module _ (c : Chart) (passed : Passed c) (ranges : Ranges c) (without : NoSensors c) where
  some_states : 0 < size c
  some_states = omega (arith, ranges.states_some)

  at_before : (p : Place) → Known c p → (e : ℕ) → at_exit_before c p e ≡ at_exit c p e
  unfolding at_exit_before at_exit
  at_before (idle q) k e = refl
  at_before (child s) k e = sym (at_exit_without c passed.tree (kinds_of ranges) without s e k)
  at_before (pre p) k e = refl
  at_before (post t) k e = refl

  alike_before : Alike c (before c)
  unfolding before
  alike_before = record {
    at_alike = at_before;
    sets_alike = λ m e h b. sym (alternatives_without c passed.tree (kinds_of ranges) without e m h b);
    tested_alike = λ m e set h b j. sym (tested_without c passed.tree (kinds_of ranges) without e m set h b j);
  }

  pub bearing_without : (r : Place) (t : ℕ) → IsPlace c r → t < length c.transitions → bearing c r t ≡ by.bearing c (before c) r t
  bearing_without r t k h = sym (bearing_known c some_states (before c) alike_before passed ranges r t h (known_stands c r k.stands))

  pub network_before : network_by c (before c) ≡ flatten c
  unfolding before
  network_before = network_by_edges c (before c)
      (λ s. sym (own_without c passed.tree (kinds_of ranges) without s))
      (λ rs. sym (join_all_before_lem rs))
      (λ p m. from_alike c some_states (before c) alike_before passed ranges p (all_places_at c m))

-- flattening a chart that passed before answers what it answered
pub flatten_before_lem : (file : List ℕ) (room : ℕ) {c : Chart} → chart_before file ≡ done c → flatten_of file room ≡ flatten_before file room
unfolding flatten_of flatten_before ◌>>=◌
flatten_before_lem file room {c} h =
    let k = passed_before file h in
    let r = chart_at_lem file k.0 in
    ap (λ (a : Answer Chart). a >>= λ d. out (flatten d)) k.0
    ∙ ap out (sym (network_before c r.0 r.1 k.1))
    ∙ sym (ap (λ (a : Answer Chart). a >>= λ d. out (network_by d (before d))) h)
  where
    out : Network → Answer (List ℕ)
    out n = unless 15 (leb (length n.edges) 1024) (fitted room (network_bytes n))
