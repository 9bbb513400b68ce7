-- What the reading of a file says of the chart: counts and fields are in range.
use mathlib.Core.Path.{◌≡◌, sym, ap, ◌∙◌, subst}
use mathlib.Core.Bool.{true, ◌||◌}
use mathlib.Core.Logic.{◌⊎◌, inl, inr, ⊎_elim}
use mathlib.Core.List.{List, [], Memᴰ as Mem}
use Prim.Native.Nat.{ℕ, ◌+◌, ◌^◌, ◌≤◌, ◌<◌}
use native.Mathlib.Omega.{arith}
use borrow.Author.Tests.{eqb-true, ltb-true, leb-true, le-leb}
use lib.Dec.{ltb, eqb}
use lib.ListN.{get_or, length, drop, length-drop}
use Rattle.reading.specs.Answer.{done}
use Rattle.reading.specs.Reading.{Read, got, fault, length_fault, range_fault, byte, byte2, recorded}
use Rattle.reading.specs.Version.{is_version}
use Rattle.labels.specs.Label.{limits}
use Rattle.labels.specs.declared.label.Limits.{Limits}
use Rattle.lists.proofs.Bools.{parts, both, or_cases}
use Rattle.lists.proofs.Lists.{get_d_mem}
use Rattle.reading.proofs.Answer.{unless_at, then_at as then-at-answer}
use Rattle.reading.proofs.Reading.{bind_at, then_at, yield_at, yield_rest, such_at, many_at, recorded_at}
use Rattle.reading.proofs.Lengths.{byte_consumes, byte2_consumes, recorded_all, recorded_shrinks, many_within}
use Rattle.clocks.proofs.Ranges.{Row, row_at}
use Rattle.labels.proofs.LabelRanges.{LabelRange, label_at}
use Rattle.chart_records.specs.Chart.{Chart, State, Transition, state, transition, records, numbered, headed, counts_at, in_range, counts_of, read_chart, state_at}
use Rattle.chart_records.specs.declared.header.Counts.{Counts}
use Rattle.chart_records.specs.Rules.{keeps_rules, chart_of}
use Rattle.chart_records.proofs.Tree.{size}
use Rattle.chart_records.proofs.Rules.{Passed, passed_at, Kinds}

pub record StateRange (clocks entries exits : ℕ) (x : State) : Type 0 where
  pub kind_small : x.kind < 3
  pub entries_small : x.entries < 2 ^ entries
  pub exits_small : x.exits < 2 ^ exits
  pub bounds_row : Row clocks x.bounds

pub state_range : (clocks entries exits : ℕ) (s : List ℕ) {x : State} {t : List ℕ} → clocks ≤ 8 → state clocks entries exits s ≡ got x t → StateRange clocks entries exits x
unfolding state
state_range clocks entries exits s {x} {t} few h =
    let a = bind_at _ _ s h in
    let k = bind_at _ _ a.1 a.3 in
    let i = bind_at _ _ k.1 k.3 in
    let o = bind_at _ _ i.1 i.3 in
    let r = bind_at _ _ o.1 o.3 in
    subst (StateRange clocks entries exits) (yield_at r.1 r.3) (record {
      kind_small = ltb-true k.0 3 (such_at _ _ a.1 k.2).0;
      entries_small = ltb-true i.0 (2 ^ entries) (such_at _ _ k.1 i.2).0;
      exits_small = ltb-true o.0 (2 ^ exits) (such_at _ _ i.1 o.2).0;
      bounds_row = row_at clocks few o.1 r.2;
    })

-- of a record of at most `long` bytes
pub record TransitionRange (states entries exits : ℕ) (l : Limits) (channels long : ℕ) (x : Transition) : Type 0 where
  pub source_known : x.source < states
  pub destination_known : x.destination < states
  pub exit_known : (x.exit < exits) ⊎ (x.exit ≡ 255)
  pub entry_known : (x.entry < entries) ⊎ (x.entry ≡ 255)
  pub label_known : LabelRange l channels x.label
  pub label_short : length x.label.bytes + 7 ≤ long

one_of : (n m k : ℕ) → (ltb n m || eqb n k) ≡ true → (n < m) ⊎ (n ≡ k)
one_of n m k h = ⊎_elim (λ e. inl (ltb-true n m e)) (λ e. inr (eqb-true n k e)) (or_cases (ltb n m) (eqb n k) h)

pub transition_range : (states entries exits : ℕ) (l : Limits) (channels : ℕ) (s : List ℕ) {x : Transition} → transition states entries exits l channels s ≡ got x [] → TransitionRange states entries exits l channels (length s) x
unfolding transition
transition_range states entries exits l channels s {x} h =
    let a = bind_at _ _ s h in
    let d = bind_at _ _ a.1 a.3 in
    let o = bind_at _ _ d.1 d.3 in
    let i = bind_at _ _ o.1 o.3 in
    let b = bind_at _ _ i.1 i.3 in
    let sa = such_at _ _ s a.2 in
    let sd = such_at _ _ a.1 d.2 in
    let so = such_at _ _ d.1 o.2 in
    let si = such_at _ _ o.1 i.2 in
    let lb = label_at l channels i.1 (b.2 ∙ ap (λ t. got b.0 t) (yield_rest _ b.1 b.3)) in
    subst (TransitionRange states entries exits l channels (length s)) (yield_at b.1 b.3) (record {
      source_known = ltb-true a.0 states sa.0;
      destination_known = ltb-true d.0 states sd.0;
      exit_known = one_of o.0 exits 255 so.0;
      entry_known = one_of i.0 entries 255 si.0;
      label_known = lb.0;
      label_short = omega (arith, byte_consumes s a.0 a.1 sa.1, byte_consumes a.1 d.0 d.1 sd.1, byte_consumes d.1 o.0 o.1 so.1, byte_consumes o.1 i.0 i.1 si.1, lb.1);
    })

-- what a chart that was read is
pub record Ranges (c : Chart) : Type 0 where
  pub version_known : is_version c.version ≡ true
  pub states_some : 2 ≤ size c
  pub states_few : size c ≤ 48
  pub clocks_few : c.clocks ≤ 8
  pub variables_few : c.variables ≤ 16
  pub channels_few : c.rendezvous + c.broadcasts ≤ 16
  pub entries_some : 1 ≤ c.entries
  pub entries_few : c.entries ≤ 16
  pub exits_few : c.exits ≤ 8
  pub transitions_few : length c.transitions ≤ 64
  pub of_state : (s : ℕ) → s < size c → StateRange c.clocks c.entries c.exits (state_at c s)
  pub of_transition : (t : Transition) → Mem t c.transitions → TransitionRange (size c) c.entries c.exits (limits c.version c.clocks c.variables) (c.rendezvous + c.broadcasts) 65523 t

-- the counts that the header gives
pub record CountRanges (n : Counts) : Type 0 where
  pub states_some : 2 ≤ n.states
  pub states_few : n.states ≤ 48
  pub clocks_few : n.clocks ≤ 8
  pub variables_few : n.variables ≤ 16
  pub channels_few : n.rendezvous + n.broadcasts ≤ 16
  pub entries_some : 1 ≤ n.entries
  pub entries_few : n.entries ≤ 16
  pub exits_few : n.exits ≤ 8
  pub transitions_few : n.transitions ≤ 64

pub counts_range : (n : Counts) → in_range n ≡ true → CountRanges n
unfolding in_range
counts_range n t = record {
  states_some = leb-true 2 n.states (search parts);
  states_few = leb-true n.states 48 (search parts);
  clocks_few = leb-true n.clocks 8 (search parts);
  variables_few = leb-true n.variables 16 (search parts);
  channels_few = leb-true (n.rendezvous + n.broadcasts) 16 (search parts);
  entries_some = leb-true 1 n.entries (search parts depth 9);
  entries_few = leb-true n.entries 16 (search parts depth 9);
  exits_few = leb-true n.exits 8 (search parts depth 9);
  transitions_few = leb-true n.transitions 64 (search parts depth 9);
}

pub range_counts : (n : Counts) → CountRanges n → in_range n ≡ true
unfolding in_range
range_counts n r =
    both (le-leb _ _ r.states_some) (both (le-leb _ _ r.states_few) (both (le-leb _ _ r.clocks_few) (both (le-leb _ _ r.variables_few) (both (le-leb _ _ r.channels_few)
    (both (le-leb _ _ r.entries_some) (both (le-leb _ _ r.entries_few) (both (le-leb _ _ r.exits_few) (le-leb _ _ r.transitions_few))))))))

records_range : (n : Counts) (s : List ℕ) {c : Chart} {t : List ℕ} → is_version n.version ≡ true → CountRanges n → length s ≤ 65525 → records n s ≡ got c t → Ranges c
unfolding records state_at
records_range n s {c} {t} v r long h =
    let a = bind_at _ _ s h in
    let b = bind_at _ _ a.1 a.3 in
    let z = then_at _ _ b.1 b.3 in
    let k = many_at n.states _ s a.2 in
    let l = many_at n.transitions _ a.1 b.2 in
    let m = many_within n.states (recorded byte (state n.clocks n.entries n.exits)) (recorded_shrinks 1 byte byte_consumes _) s a.2 in
    let w = many_within n.transitions (recorded byte2 (transition n.states n.entries n.exits (limits n.version n.clocks n.variables) (n.rendezvous + n.broadcasts))) (recorded_shrinks 2 byte2 byte2_consumes _) a.1 b.2 in
    subst Ranges (yield_at z.1 z.3) (record {
      version_known = v;
      states_some = omega (arith, r.states_some, k.0);
      states_few = omega (arith, r.states_few, k.0);
      clocks_few = r.clocks_few;
      variables_few = r.variables_few;
      channels_few = r.channels_few;
      entries_some = r.entries_some;
      entries_few = r.entries_few;
      exits_few = r.exits_few;
      transitions_few = omega (arith, r.transitions_few, l.0);
      of_state = λ s h. let q = k.1 _ (get_d_mem a.0 s _ h) in let w = recorded_at _ _ q.0 q.2 in state_range n.clocks n.entries n.exits w.0 r.clocks_few w.2;
      of_transition = λ t j.
          let q = w.1 t j in
          let u = recorded_all 2 byte2 byte2_consumes _ q.0 q.2 in
          let f = transition_range n.states n.entries n.exits (limits n.version n.clocks n.variables) (n.rendezvous + n.broadcasts) u.0 u.1 in
          subst (λ (x : ℕ). TransitionRange x n.entries n.exits (limits n.version n.clocks n.variables) (n.rendezvous + n.broadcasts) 65523 t) (sym k.0) (record {
            source_known = f.source_known;
            destination_known = f.destination_known;
            exit_known = f.exit_known;
            entry_known = f.entry_known;
            label_known = f.label_known;
            label_short = omega (arith, f.label_short, u.2, q.3, m.0);
          });
    })

pub numbered_at : {A : Type 0} {a : A} (r : Read A) → numbered r ≡ done a → (t : List ℕ) × (r ≡ got a t)
unfolding numbered
numbered_at (got x t) h = (t, cc)
numbered_at (fault length_fault) h = absurd (let z : ◌≡◌ {A = ℕ} 0 1 = cc in omega arith)
numbered_at (fault range_fault) h = absurd (let z : ◌≡◌ {A = ℕ} 0 1 = cc in omega arith)

-- a file with a header has all its counts, and is not too long
pub headed_long : (file : List ℕ) → headed file ≡ true → 11 ≤ length file
unfolding headed
headed_long file h = leb-true 11 (length file) (search parts)

pub headed_short : (file : List ℕ) → headed file ≡ true → length file ≤ 65536
unfolding headed
headed_short file h = leb-true (length file) 65536 (search parts)

pub headed_version : (file : List ℕ) {n : Counts} → headed file ≡ true → n ≡ counts_at file → is_version n.version ≡ true
unfolding headed counts_at
headed_version file h e =
    let v : is_version (get_or file 0 0) ≡ true = search parts in
    ap (λ (n : Counts). is_version n.version) e ∙ v

-- what the counts of a file that has a header are
pub counts_of_at : (file : List ℕ) {n : Counts} → counts_of file ≡ done n → (headed file ≡ true) × (in_range n ≡ true) × (n ≡ counts_at file)
unfolding counts_of
counts_of_at file {n} h =
    let u = unless_at 1 _ _ h in
    let v = unless_at 2 _ _ u.1 in
    let e : n ≡ counts_at file = same v.1 in
    (u.0, rw e v.0, e)
  where
    same : done (counts_at file) ≡ done n → n ≡ counts_at file
    same e = cc

pub read_range : (file : List ℕ) {c : Chart} → read_chart file ≡ done c → Ranges c
unfolding read_chart
read_range file h =
    let r = then-at-answer (counts_of file) _ h in
    let w = numbered_at _ r.2 in
    let k = counts_of_at file r.1 in
    records_range r.0 (drop 11 file) (headed_version file k.0 k.2) (counts_range r.0 k.1) (omega (arith, length-drop 11 file, headed_short file k.0)) w.1

-- the version of a chart is the first byte of its file
read_version : (file : List ℕ) {c : Chart} → read_chart file ≡ done c → c.version ≡ get_or file 0 0
unfolding read_chart records counts_at
read_version file h =
    let r = then-at-answer (counts_of file) _ h in
    let w = numbered_at _ r.2 in
    let a = bind_at _ _ (drop 11 file) w.1 in
    let b = bind_at _ _ a.1 a.3 in
    let z = then_at _ _ b.1 b.3 in
    sym (ap (λ (c : Chart). c.version) (yield_at z.1 z.3)) ∙ ap (λ (n : Counts). n.version) (counts_of_at file r.1).2

pub chart_version : (file : List ℕ) {c : Chart} → chart_of file ≡ done c → c.version ≡ get_or file 0 0
unfolding chart_of
chart_version file h =
    let r = then-at-answer (read_chart file) keeps_rules h in
    ap (λ (c : Chart). c.version) (sym (passed_at r.0 r.2).1) ∙ read_version file r.1

-- a chart that is not refused keeps the rules, and is in range
pub chart_at_lem : (file : List ℕ) {c : Chart} → chart_of file ≡ done c → Passed c × Ranges c
unfolding chart_of
chart_at_lem file h =
    let r = then-at-answer (read_chart file) keeps_rules h in
    let k = passed_at r.0 r.2 in
    (subst Passed k.1 k.0, subst Ranges k.1 (read_range file r.1))

pub kinds_of : {c : Chart} → Ranges c → Kinds c
kinds_of r s h = (r.of_state s h).kind_small
