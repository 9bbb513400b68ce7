-- The tables of a chart from which its network is made.
use mathlib.Core.Path.{◌≡◌, sym, ap, ◌∙◌, subst}
use mathlib.Core.List.{List}
use Prim.Native.Nat.{ℕ, ◌+◌, ◌≤◌, ◌<◌}
use native.Mathlib.Omega.{arith}
use native.Mathlib.Decide.{ℕ_discrete}
use lib.ListN.{length, get_or, set, length-set}
use lib.Seq.{get_or-set_same, get_or-set_other}
use Rattle.chart_records.specs.Chart.{Chart}
use Rattle.chart_records.specs.Tree.{sequentials}
use Rattle.chart_records.specs.Layout.{Stated}
use Rattle.chart_records.specs.Laid.{Laid}
use Rattle.chart_tree.specs.Table.{Tabled}
use Rattle.chart.specs.Ready.{Ready}
use Rattle.chart_tree.specs.declared.table.Tree.{Tree}
use Rattle.chart_records.specs.declared.header.Counts.{Counts}
use Rattle.chart_records.proofs.Ranges.{chart_at_lem, CountRanges, counts_range}
use Rattle.flattening.specs.Flatten.{child, all_places}
use Rattle.flattening.proofs.Numbers.{all_places_at, number_lt}
use Rattle.flatten_places.specs.Tables.{Chartered, Listed}
use Rattle.flatten_places.specs.Walking.{ChildNumbers, Tabulated}
use Rattle.flatten_tables.specs.Numbering.{Numbered}
use Rattle.flatten_tables.specs.Summing.{Summed}
use Rattle.flatten_places.specs.declared.place.Places.{Places}
use Rattle.flatten_places.specs.declared.walk.Tables.{Tables}

-- the part of the table of numbers that children have
pub record Parted (numbers children : List ℕ) (n : ℕ) : Type 0 where
  pub long : length children ≡ 48
  pub done : (s : ℕ) → s < n → get_or children s 0 ≡ get_or numbers (64 + s) 0

pub parted_none : (numbers children : List ℕ) → length children ≡ 48 → Parted numbers children 0
parted_none numbers children l = record { long = l; done = λ s h. absurd (omega arith) }

pub parted_more : (numbers children : List ℕ) (n v : ℕ) → Parted numbers children n → n < 48 → v ≡ get_or numbers (64 + n) 0 → Parted numbers (set children n v) (n + 1)
parted_more numbers children n v p h e = record {
  long = length-set children n v ∙ p.long;
  done = λ s k. elim (ℕ_discrete s n) [
    | yes z ↦ ap (λ (j : ℕ). get_or (set children n v) j 0) z ∙ get_or-set_same children n v 0 (omega (arith, p.long)) ∙ e ∙ ap (λ (j : ℕ). get_or numbers (64 + j) 0) (sym z)
    | no z ↦ get_or-set_other children n s v 0 z ∙ p.done s (omega arith)
  ];
}

pub parted_all : (c : Chart) → Chartered c → (numbers children : List ℕ) (n : ℕ) → Parted numbers children n → 48 ≤ n → Numbered c numbers → ChildNumbers c children
parted_all c C numbers children n p h N s m =
    let k = all_places_at c m in
    p.done s (omega (arith, k.stands.known, (chart_at_lem C.0 C.1).1.states_few)) ∙ N.at_slot (child s) (number_lt c k)

-- the counts of a chart's file
module _ (c : Chart) {file : List ℕ} {n : Counts} (S : Stated file n c) where
  ranges : CountRanges n
  ranges = counts_range n S.in_range_lem

  pub states_few : n.states ≤ 48
  states_few = ranges.states_few

  pub entries_few : n.entries ≤ 16
  entries_few = ranges.entries_few

  pub exits_few : n.exits ≤ 8
  exits_few = ranges.exits_few

  pub transitions_few : length c.transitions ≡ n.transitions → length c.transitions ≤ 64
  transitions_few e = omega (arith, ranges.transitions_few)

  pub channels_small : (n.rendezvous < 128) × (n.broadcasts < 128)
  channels_small = (omega (arith, ranges.channels_few), omega (arith, ranges.channels_few))

  pub channels_are : {k : ℕ} → k ≡ n.rendezvous + n.broadcasts → k ≡ c.rendezvous + c.broadcasts
  channels_are e = omega (arith, S.rendezvous, S.broadcasts)

  -- what is written of them
  module _ (t : Tables) (ps : Places) (T : Tabulated c t) (L : Listed c (all_places c) ps) where
    pub enters_small : t.enters.count < 128
    enters_small = omega (arith, T.enters.count, T.enters.few)

    pub leaves_small : t.leaves.count < 128
    leaves_small = omega (arith, T.leaves.count, T.leaves.few)

    pub entering_small : {k : ℕ} → k ≡ n.broadcasts + t.enters.count → k < 128
    entering_small e = omega (arith, T.enters.count, T.enters.few, ranges.channels_few)

    pub summed : {a b : ℕ} → a ≡ n.broadcasts + t.enters.count → b ≡ a + t.leaves.count
        → Summed c (record { counts = n; tree = t.tree; fixed = t.fixed; transitions = t.transitions; places = ps; initials = t.initials; automata = t.automata.count; broadcasts = b })
    summed e f = record {
      chartered = T.chart;
      version = sym S.version;
      clocks = sym S.clocks;
      variables = sym S.variables;
      rendezvous = sym S.rendezvous;
      fixed = T.fixed;
      columned = T.transitions;
      listed = L;
      starting = T.initials;
      automata = T.automata.count;
      broadcasts = omega (arith, S.broadcasts, T.enters.count, T.leaves.count);
    }

pub automata_few : (c : Chart) → Chartered c → length (sequentials c) ≤ 16
automata_few c C = (chart_at_lem C.0 C.1).0.at_most

-- a chart is as ready with other tables of its states
pub ready_as : (c : Chart) {rest offsets : List ℕ} {n : Counts} {tree : Tree} → Ready rest n offsets tree c → {m : Counts} {u v : Tree} → m ≡ n → v ≡ u → Tabled c u → Ready rest m offsets v c
ready_as c {rest} {offsets} R e f T = record {
  laid = subst (λ (k : Counts). Laid rest k offsets c) (sym e) R.laid;
  tabled = subst (Tabled c) (sym f) T;
  parents = R.parents;
  entry_marks_lem = R.entry_marks_lem;
  siblings = R.siblings;
  exits = R.exits;
}
