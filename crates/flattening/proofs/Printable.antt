-- The network of a chart that is not refused is printable: so reading its file gives it back.
use mathlib.Core.Path.{◌≡◌, refl, sym, ap, ◌∙◌, subst}
use mathlib.Core.Bool.{Bool, true, false, cond, ◌&&◌, xor}
use mathlib.Core.Logic.{◌⊎◌, inl, inr, ⊎_elim}
use mathlib.Core.List.{List, [], Memᴰ as Mem}
use Prim.Native.Nat.{ℕ, ◌+◌, ◌^◌, ◌≤◌, ◌<◌}
use native.Mathlib.Omega.{arith}
use native.Mathlib.Decide.{ℕ_discrete}
use borrow.Author.Tests.{lt-ltb, leb-true, ne_eqb}
use lib.Dec.{ltb, eqb}
use lib.ListN.{length, get_or}
use lib.Pow.{pow_pos}
use Rattle.lists.specs.Lists.{has, subset}
use Rattle.reading.specs.Answer.{done}
use Rattle.reading.specs.Answer as answer
use Rattle.reading.specs.Reading.{yield, many}
use Rattle.labels.specs.Label.{limits, Label, body, channel_fits}
use Rattle.labels.specs.declared.label.Limits.{Limits}
use Rattle.lists.proofs.Bools.{clash, and_l, and_r}
use Rattle.lists.proofs.Lists.{map_at}
use Rattle.lists.proofs.Bits.{has_bits, has_zero, bits_lt, has_low_lt, subset_by}
use Rattle.reading.proofs.Answer.{unless_at, unless_by, then_at, done_injective}
use Rattle.reading.proofs.Places.{bind_got}
use Rattle.reading.proofs.Printed.{byte_front}
use Rattle.clocks.proofs.Ranges.{Row, row_free, row_join}
use Rattle.labels.proofs.LabelRanges.{LabelRange, label_range_more}
use Rattle.network_records.specs.Network.{Edge, read_network, network_of}
use Rattle.chart_records.specs.Chart.{Chart, transition_at}
use Rattle.chart_records.specs.Tree.{sequentials}
use Rattle.chart_records.specs.Rules.{chart_of}
use Rattle.chart_records.proofs.Tree.{size}
use Rattle.chart_records.proofs.Rules.{Passed, kinds_left}
use Rattle.chart_records.proofs.Ranges.{Ranges, kinds_of, chart_at_lem, chart_version}
use Rattle.chart_rules.proofs.TransitionRules.{transition_mem}
use Rattle.flattening.specs.Flatten.{Place, idle, child, pre, post, same_place, has_exit, bounds_of, at_exit, initial_place, flag_at, written_by, values_by, place_home, all_places, alternatives, on_values, signalling, edge, own_edge, exit_tested, departure, urgent_place, location_of, flatten}
use Rattle.flattening.specs.File.{edge_bytes, out2, network_bytes, flatten_of, fitted}
use Rattle.flattening.proofs.Automata.{automaton_lt}
use Rattle.flattening.proofs.Sums.{sorted_at}
use Rattle.flattening.proofs.Alternatives.{drawn}
use Rattle.flattening.proofs.Numbers.{IsPlace, idle_place, child_place, all_places_at, number_lt, locations_length}
use Rattle.flattening.proofs.Channels.{enter_channel_known, exit_channel_known, heard_entries_at, heard_exits_at, pre_enters}
use Rattle.flattening.proofs.Arrivals.{ends, exit_lt, exit_pair_lem, arrival_place, departure_place, source_place}
use Rattle.flattening.proofs.Edges.{Tests, tested_some, tested_none, Leaves, edges_at}
use Rattle.flattening.proofs.Sound.{sound_flatten}
use Rattle.flattening.proofs.Files.{PrintableLocation, PrintableEdge, Printable, read_printed}
use Rattle.flattening.proofs.Joins.{bounds_have}
use Rattle.flattening.proofs.Counts.{enter_pairs_few, exit_pairs_few, all_places_few, all_places_some}

-- locations
flag : (b : Bool) → cond b 1 0 < 2
flag true = omega arith
flag false = omega arith

urgent_flag : (p : Place) → urgent_place p < 2
unfolding urgent_place
urgent_flag (idle q) = omega arith
urgent_flag (child s) = omega arith
urgent_flag (pre p) = omega arith
urgent_flag (post t) = omega arith

module _ (c : Chart) (ranges : Ranges c) where
  bounds_row : (p : Place) → IsPlace c p → Row c.clocks (bounds_of c p)
  bounds_row p k = bounds_have (Row c.clocks) (row_free c.clocks ranges.clocks_few) (row_join c.clocks) c ranges (λ s h. (ranges.of_state s h).bounds_row) p k.stands

  location_fits : (p : Place) → IsPlace c p → PrintableLocation (length (sequentials c)) c.clocks (location_of c p)
  unfolding location_of
  location_fits p k = record { automaton_known = automaton_lt c k.region; urgent_flag = urgent_flag p; initial_flag = flag (same_place p (initial_place c (place_home c p))); bounds_row = bounds_row p k }

-- labels
pub signalling_fits : (l : Limits) (channels signal channel : ℕ) → 1 ≤ signal → signal < 3 → channel < channels → LabelRange l channels (signalling signal channel)
unfolding signalling channel_fits body many yield
signalling_fits l channels signal channel some few h = record {
  signal_known = few;
  channel_known = rw (ne_eqb signal 0 (λ e. omega arith)) (lt-ltb channel channels h);
  resets_known = pow_pos l.clocks;
  body_read = bind_got _ _ _ (byte_front 0 _) ∙ (bind_got _ _ _ (byte_front 0 []) ∙ (bind_got _ _ _ refl ∙ bind_got _ _ _ refl));
}

-- values are of what is tested or written
needed_tested : (c : Chart) (exit set : ℕ) → subset 16 (cond (eqb exit 255) 0 (on_values c exit set)) set ≡ true
unfolding on_values
needed_tested c exit set = go (eqb exit 255)
  where
    go : (b : Bool) → subset 16 (cond b 0 (on_values c exit set)) set ≡ true
    go true = subset_by 16 0 set (λ i l h. clash h (has_zero i))
    go false = subset_by 16 (on_values c exit set) set (λ i l h. and_l (has set i) _ (and_r (ltb i 16) _ (sym (has_bits _ 16 i) ∙ h)))

needed_short : (c : Chart) (exit set : ℕ) → cond (eqb exit 255) 0 (on_values c exit set) < 2 ^ 16
unfolding on_values
needed_short c exit set = go (eqb exit 255)
  where
    go : (b : Bool) → cond b 0 (on_values c exit set) < 2 ^ 16
    go true = pow_pos 16
    go false = bits_lt _ 16

values_written : (c : Chart) (p r : Place) → subset 8 (values_by c p r) (written_by c p r) ≡ true
unfolding values_by written_by
values_written c p r = subset_by 8 _ _ (λ i l h.
    let k = and_r (ltb i 8) _ (sym (has_bits (λ e. xor (at_exit c p e) (at_exit c r e) && flag_at c (place_home c r) r e) 8 i) ∙ h) in
    has_bits (λ e. xor (at_exit c p e) (at_exit c r e)) 8 i ∙ rw (lt-ltb i 8 l) (and_l (xor (at_exit c p i) (at_exit c r i)) _ k))

module _ (c : Chart) (passed : Passed c) (ranges : Ranges c) where
  abbrev Fits : Edge → Type 0
  Fits e = PrintableEdge (length (sequentials c)) (length (flatten c).locations) (limits c.version c.clocks c.variables) ((flatten c).rendezvous + (flatten c).broadcasts) e

  abbrev FitsLabel : Label → Type 0
  FitsLabel l = LabelRange (limits c.version c.clocks c.variables) ((flatten c).rendezvous + (flatten c).broadcasts) l

  -- an edge between two places
  edge_fits : {p r : Place} → IsPlace c p → IsPlace c r → (transition exit set : ℕ) (l : Label) → ((transition < 64) ⊎ (transition ≡ 255)) → ((exit < 8) ⊎ (exit ≡ 255)) → (exit ≡ 255 → set ≡ 0)
      → set < 2 ^ length (sequentials c) → FitsLabel l → length l.bytes ≤ 65516 → Fits (edge c p r transition exit set l)
  unfolding edge edge_bytes out2 values_by written_by
  edge_fits {p} {r} j k transition exit set l t x n s f h = record {
    source_known = omega (arith, number_lt c j, locations_length c);
    target_known = omega (arith, number_lt c k, locations_length c);
    transition_known = t;
    exit_known = x;
    tested_known = s;
    tested_none = n;
    needed_tested = needed_tested c exit set;
    needed_short = needed_short c exit set;
    written_byte = bits_lt _ 8;
    values_byte = bits_lt _ 8;
    values_written = values_written c p r;
    label_known = f;
    record_short = omega arith;
  }

  -- .. that only signals
  own_edge_fits : {p r : Place} → IsPlace c p → IsPlace c r → (signal channel : ℕ) → 1 ≤ signal → signal < 3 → channel < (flatten c).rendezvous + (flatten c).broadcasts → Fits (own_edge c p r (signalling signal channel))
  unfolding own_edge signalling
  own_edge_fits j k signal channel some few h =
      edge_fits j k 255 255 0 (signalling signal channel) (inr refl) (inr refl) (λ e. refl) (pow_pos (length (sequentials c))) (signalling_fits _ _ signal channel some few h) (omega arith)

  -- a transition's label
  label_fits : (t : ℕ) → t < length c.transitions → FitsLabel (transition_at c t).label
  unfolding flatten
  label_fits t h = label_range_more _ (c.rendezvous + c.broadcasts) _ _ (omega arith) (ranges.of_transition _ (transition_mem c t h)).label_known

  -- an alternative is a set of automata
  pub alternative_lt : (t : ℕ) → t < length c.transitions → has_exit c t ≡ true → {x : ℕ} → Mem x (alternatives c (transition_at c t).source (transition_at c t).exit) → x < 2 ^ length (sequentials c)
  unfolding alternatives
  alternative_lt t h e {x} m =
      let d = drawn c passed.tree (kinds_left c (kinds_of ranges)) (transition_at c t).exit (size c) (transition_at c t).source x (ends c passed ranges t h).from.known (sorted_at _ m) in
      has_low_lt (length (sequentials c)) x (λ a k. let w = d.within a k in subst (λ (i : ℕ). i < length (sequentials c)) w.2 (automaton_lt c w.1))

  -- the exit that it is tested by is one of the chart's, or none with no automaton
  exit_fits : (t : ℕ) → t < length c.transitions → has_exit c t ≡ true → (set : ℕ) → ((exit_tested set (transition_at c t).exit < 8) ⊎ (exit_tested set (transition_at c t).exit ≡ 255)) × (exit_tested set (transition_at c t).exit ≡ 255 → set ≡ 0)
  exit_fits t h e set = elim (ℕ_discrete set 0) [
    | yes z ↦ (inr (tested_none set _ z), λ _. z)
    | no d ↦ let l = exit_lt c passed ranges t h e in let k = tested_some set (transition_at c t).exit d in (inl (omega (arith, ranges.exits_few)), λ j. absurd (omega (arith, ranges.exits_few)))
  ]

  -- the edges that bear a transition
  bearing_fits : (t : ℕ) → t < length c.transitions → (exit set : ℕ) → Tests c t exit set → Fits (edge c (child (transition_at c t).source) (departure c t) t exit set (transition_at c t).label)
  bearing_fits t h exit set k = ⊎_elim
      (λ j. let f = exit_fits t h j.0 set in fits (subst (λ (x : ℕ). (x < 8) ⊎ (x ≡ 255)) (sym j.1) f.0) (λ e. f.1 (sym j.1 ∙ e)) (alternative_lt t h j.0 j.2))
      (λ j. fits (inr j.1) (λ e. j.2) (subst (λ (x : ℕ). x < 2 ^ length (sequentials c)) (sym j.2) (pow_pos (length (sequentials c)))))
      k
    where
      fits : (exit < 8) ⊎ (exit ≡ 255) → (exit ≡ 255 → set ≡ 0) → set < 2 ^ length (sequentials c) → Fits (edge c (child (transition_at c t).source) (departure c t) t exit set (transition_at c t).label)
      fits x n s = edge_fits (source_place c passed ranges t h).is_place (departure_place c passed ranges t h).is_place t exit set (transition_at c t).label (inl (omega (arith, ranges.transitions_few))) x n s (label_fits t h)
          (omega (arith, (ranges.of_transition _ (transition_mem c t h)).label_short))

  -- whatever leaves a place
  leaving_fits : (p : Place) (e : Edge) → IsPlace c p → Leaves c p e → Fits e
  unfolding place_home
  leaving_fits (idle q) e k l = subst Fits (sym l.edge_is) (own_edge_fits k (child_place c k.region l.is_child_lem).is_place 2 _ (omega arith) (omega arith) (enter_channel_known c (heard_entries_at c l.to l.heard).0))
  leaving_fits (child s) e k l = ⊎_elim
      (λ j. subst Fits (sym j.edge_is) (own_edge_fits k (idle_place c k.region).is_place 2 _ (omega arith) (omega arith) (exit_channel_known c (heard_exits_at c s j.heard).0)))
      (λ j. subst Fits (sym j.bears.edge_is) (bearing_fits j.transition j.known j.bears.exit j.bears.set j.bears.tests))
      l
  leaving_fits (pre p) e k l = subst Fits (sym l) (own_edge_fits k (child_place c k.region k.stands.0).is_place 1 _ (omega arith) (omega arith) (enter_channel_known c (pre_enters c k)))
  leaving_fits (post t) e k l = subst Fits (sym l) (own_edge_fits k (arrival_place c passed ranges t k.stands.0).is_place 1 _ (omega arith) (omega arith) (exit_channel_known c (exit_pair_lem c passed ranges t k.stands.0 k.stands.1)))

  -- the network
  pub printable_flatten : length (flatten c).edges ≤ 1024 → Printable (flatten c)
  unfolding flatten
  printable_flatten h = record {
    version_known = ranges.version_known;
    automata_some = passed.at_least;
    automata_few = passed.at_most;
    locations_some = omega (arith, locations_length c, all_places_some c passed ranges);
    locations_few = omega (arith, locations_length c, all_places_few c passed ranges);
    edges_few = h;
    clocks_few = ranges.clocks_few;
    variables_few = ranges.variables_few;
    rendezvous_few = omega (arith, ranges.channels_few);
    broadcasts_few = omega (arith, ranges.channels_few, enter_pairs_few c, exit_pairs_few c, ranges.transitions_few);
    of_location = λ l m. let r = map_at (location_of c) (all_places c) m in subst (PrintableLocation (length (sequentials c)) c.clocks) (sym r.2) (location_fits c ranges r.0 (all_places_at c r.1));
    of_edge = λ e m. let r = edges_at c m in leaving_fits r.0 e r.1 r.2;
  }

-- reading the file of a chart's network gives the network, and finds it sound
pub read_flattened : (file : List ℕ) {c : Chart} → chart_of file ≡ done c → length (flatten c).edges ≤ 1024 → read_network (network_bytes (flatten c)) ≡ done (flatten c)
read_flattened file {c} h k = let r = chart_at_lem file h in read_printed (flatten c) (printable_flatten c r.0 r.1 k)

pub network_of_flattened : (file : List ℕ) {c : Chart} → chart_of file ≡ done c → length (flatten c).edges ≤ 1024 → network_of (network_bytes (flatten c)) ≡ done (flatten c)
unfolding network_of answer.◌>>=◌
network_of_flattened file {c} h k = let r = chart_at_lem file h in rw (read_flattened file h k) (unless_by 25 (done (flatten c)) (sound_flatten c r.0 r.1))

-- what flattening answers is the file of the chart's network
pub record Flattened (file : List ℕ) (room : ℕ) (s : List ℕ) : Type 0 where
  pub chart : Chart
  pub chart_is : chart_of file ≡ done chart
  pub edges_few : length (flatten chart).edges ≤ 1024
  pub room_enough : length s ≤ room
  pub file_is : s ≡ network_bytes (flatten chart)
  pub network_is : network_of s ≡ done (flatten chart)

pub flattened_at : (file : List ℕ) (room : ℕ) {s : List ℕ} → flatten_of file room ≡ done s → Flattened file room s
unfolding flatten_of fitted
flattened_at file room {s} h =
    let a = then_at (chart_of file) _ h in
    let n = unless_at 15 _ _ a.2 in
    let f = unless_at 16 _ _ n.1 in
    let few = leb-true (length (flatten a.0).edges) 1024 n.0 in
    let e : network_bytes (flatten a.0) ≡ s = done_injective f.1 in
    record {
      chart = a.0;
      chart_is = a.1;
      edges_few = few;
      room_enough = subst (λ (x : List ℕ). length x ≤ room) e (leb-true _ room f.0);
      file_is = sym e;
      network_is = ap network_of (sym e) ∙ network_of_flattened file a.1 few;
    }

-- the network of a chart begins with the byte that the chart begins with, its version
pub version_handed_on : (file : List ℕ) (room : ℕ) {s : List ℕ} → flatten_of file room ≡ done s → get_or s 0 0 ≡ get_or file 0 0
unfolding network_bytes flatten
version_handed_on file room h =
    let F = flattened_at file room h in
    ap (λ (x : List ℕ). get_or x 0 0) F.file_is ∙ chart_version file F.chart_is
