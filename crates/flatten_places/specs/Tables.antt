-- What the flattener keeps of a chart: its transitions as columns, its automata, pairs and places as tables.
use Rattle.std.specs.Prelude.{ℕ, ◌≤◌, ◌<◌, ◌≡◌, cond, ◌&&◌, List, map, get_or, length, take}
use Rattle.lists.specs.Lists.{has, bits_of}
use Rattle.reading.specs.Answer.{done}
use Rattle.chart_records.specs.Chart.{Chart, Transition, state_at, transition_at}
use Rattle.chart_records.specs.Tree.{sequentials, fixed, shares}
use Rattle.chart_records.specs.Rules.{chart_of}
use Rattle.flattening.specs.Flatten.{Pair, Place, idle, child, pre, post, place_home, automaton, at_exit, number, arrival, departure}
use Rattle.flatten_places.specs.declared.transition.Transitions.{Transitions}
use Rattle.flatten_places.specs.declared.automaton.Automata.{Automata}
use Rattle.flatten_places.specs.declared.fixed.Fixed.{Fixed}
use Rattle.flatten_places.specs.declared.pair.Pairs.{Pairs}
use Rattle.flatten_places.specs.declared.place.Places.{Places}

-- the chart of some file that passes the check
abbrev pub Chartered : Chart → Type 0
Chartered c = (file : List ℕ) × (chart_of file ≡ done c)

-- a column has a field of each transition
abbrev pub ColumnOf : (Transition → ℕ) → Chart → List ℕ → Type 0
ColumnOf field c l = (t : ℕ) → t < length c.transitions → get_or l t 0 ≡ field (transition_at c t)

pub record Columned (c : Chart) (t : Transitions) : Type 0 where
  pub count : t.count ≡ length c.transitions
  pub few : length c.transitions ≤ 64
  pub source : ColumnOf (λ u. u.source) c t.sources
  pub destination : ColumnOf (λ u. u.destination) c t.destinations
  pub exit : ColumnOf (λ u. u.exit) c t.exits
  pub entry : ColumnOf (λ u. u.entry) c t.entries

-- the kind of each state, with that of a basic one for each that is fixed
abbrev pub FixedKinds : Chart → List ℕ → Type 0
FixedKinds c l = (s : ℕ) → s < 48 → get_or l s 0 ≡ cond (fixed c s) 0 (state_at c s).kind

-- the exits that each fixed state is at; no other state is at any
abbrev pub AtExits : Chart → List ℕ → Type 0
AtExits c l = (s e : ℕ) → s < length c.states → e < 8 → has (get_or l s 0) e ≡ (fixed c s && shares c e s)

-- the tables tell which states are fixed, and at which exits
pub record FixedIn (c : Chart) (f : Fixed) : Type 0 where
  pub kind : FixedKinds c f.kinds
  pub exits : AtExits c f.exits

-- the sequential states in order, and the number of each
pub record Automated (c : Chart) (a : Automata) : Type 0 where
  pub count : a.count ≡ length (sequentials c)
  pub few : length (sequentials c) ≤ 16
  pub states : sequentials c ≡ take (length (sequentials c)) a.states
  pub number : (q : ℕ) → automaton c q < length (sequentials c) → get_or a.numbers q 0 ≡ automaton c q

-- the table holds these pairs
pub record Paired (ps : List Pair) (p : Pairs) : Type 0 where
  pub count : p.count ≡ length ps
  pub few : length ps ≤ 64
  pub states : map (λ x. x.state) ps ≡ take (length ps) p.states
  pub marks : map (λ x. x.mark) ps ≡ take (length ps) p.marks

-- a place by numbers: its kind, what it stands for, and the entry before which it is
abbrev pub kind_of : Place → ℕ
kind_of (idle q) = 0
kind_of (child s) = 1
kind_of (pre p) = 2
kind_of (post t) = 3

abbrev pub value_of : Place → ℕ
value_of (idle q) = q
value_of (child s) = s
value_of (pre p) = p.state
value_of (post t) = t

abbrev pub mark_of : Place → ℕ
mark_of (idle q) = 0
mark_of (child s) = 0
mark_of (pre p) = p.mark
mark_of (post t) = 0

-- the exits that a place is at, as bits
unfoldable pub exits_at : Chart → Place → ℕ
exits_at c p = bits_of (at_exit c p) 8

-- the table holds these places of the chart
pub record Listed (c : Chart) (ps : List Place) (p : Places) : Type 0 where
  pub count : p.count ≡ length ps
  pub few : length ps ≤ 192
  pub kinds : map kind_of ps ≡ take (length ps) p.kinds
  pub values : map value_of ps ≡ take (length ps) p.values
  pub marks : map mark_of ps ≡ take (length ps) p.marks
  pub automata : map (λ x. automaton c (place_home c x)) ps ≡ take (length ps) p.automata
  pub exits : map (exits_at c) ps ≡ take (length ps) p.exits

-- the numbers of the places where transitions depart to, and where they arrive
abbrev pub Departing : Chart → List ℕ → Type 0
Departing c l = (t : ℕ) → t < length c.transitions → get_or l t 0 ≡ number c (departure c t)

abbrev pub Arriving : Chart → List ℕ → Type 0
Arriving c l = (t : ℕ) → t < length c.transitions → get_or l t 0 ≡ number c (arrival c t)
