-- Where the records of a checked file stand, in its bytes after version and length.
use Rattle.std.specs.Prelude.{◌≡◌, Bool, true, List, ℕ, ◌+◌, ◌*◌, ◌<◌, length}
use Rattle.reading.specs.Reading.{Reader, got, byte, recorded}
use Rattle.labels.specs.Label.{limits, assigns_once}
use Rattle.reading.specs.Places.{onward}
use Rattle.chart_records.specs.Chart.{Chart, Transition, state, state_at, transition, in_range}
use Rattle.chart_records.specs.declared.header.Counts.{Counts}

-- the bytes of a state's record, its length byte included
abbrev pub state_size : ℕ → ℕ
state_size clocks = 6 + 4 * clocks

-- state records follow the eight bytes of counts
abbrev pub state_place : ℕ → ℕ → ℕ
state_place clocks s = 8 + s * state_size clocks

-- the counts and the states of c stand in the bytes
pub record Stated (rest : List ℕ) (n : Counts) (c : Chart) : Type 0 where
  pub in_range_lem : in_range n ≡ true
  pub version : c.version ≡ n.version
  pub clocks : c.clocks ≡ n.clocks
  pub variables : c.variables ≡ n.variables
  pub rendezvous : c.rendezvous ≡ n.rendezvous
  pub broadcasts : c.broadcasts ≡ n.broadcasts
  pub entries : c.entries ≡ n.entries
  pub exits : c.exits ≡ n.exits
  pub states : length c.states ≡ n.states
  pub here : (s : ℕ) → s < n.states → recorded byte (state n.clocks n.entries n.exits) (onward rest (state_place n.clocks s)) ≡ got (state_at c s) (onward rest (state_place n.clocks s + state_size n.clocks))

-- the content of a transition's record, in a file with such counts
abbrev pub transition_by : Counts → Reader Transition
transition_by n = transition n.states n.entries n.exits (limits n.version n.clocks n.variables) (n.rendezvous + n.broadcasts)

-- rule 13
abbrev pub once : Transition → Bool
once t = assigns_once t.label
