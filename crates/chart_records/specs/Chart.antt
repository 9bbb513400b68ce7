-- Charts, hierarchical timed automata, and the file that holds one.
use Rattle.std.specs.Prelude.{ℕ, ◌+◌, ◌*◌, ◌-◌, ◌^◌, Bool, ◌&&◌, ◌||◌, List, [], leb, ltb, eqb, get_or, length, drop}
use Rattle.lists.specs.Lists.{below}
use Rattle.reading.specs.Reading.{length_fault, range_fault, Read, got, fault, Reader, yield, ◌>>=◌, ◌>>◌, byte, byte2, such, many, end, recorded}
use Rattle.reading.specs.Version.{is_version}
use Rattle.labels.specs.Label.{limits, Label, label}
use Rattle.labels.specs.declared.label.Limits.{Limits}
use Rattle.clocks.specs.Clocks.{row}
use Rattle.reading.specs.Answer.{Answer, done, refused, unless}
use Rattle.reading.specs.Answer as answer
use Rattle.chart_records.specs.declared.header.Counts.{Counts}

pub record State : Type 0 where
  pub parent : ℕ  -- 255: none
  pub kind : ℕ  -- 0 basic, 1 sequential, 2 parallel
  pub entries : ℕ  -- the entries that it is marked with, as bits
  pub exits : ℕ
  pub bounds : List ℕ

pub record Transition : Type 0 where
  pub source : ℕ
  pub destination : ℕ
  pub exit : ℕ  -- 255: none
  pub entry : ℕ  -- 255: none
  pub label : Label

pub record Chart : Type 0 where
  pub version : ℕ
  pub clocks : ℕ
  pub variables : ℕ
  pub rendezvous : ℕ
  pub broadcasts : ℕ
  pub entries : ℕ
  pub exits : ℕ
  pub states : List State
  pub transitions : List Transition

unfoldable pub state : ℕ → ℕ → ℕ → Reader State
state clocks entries exits = do
  p ← byte
  k ← such byte (λ n. ltb n 3)
  i ← such byte2 (λ n. ltb n (2 ^ entries))
  o ← such byte (λ n. ltb n (2 ^ exits))
  r ← row clocks
  yield (record { parent = p; kind = k; entries = i; exits = o; bounds = r })

unfoldable pub transition : ℕ → ℕ → ℕ → Limits → ℕ → Reader Transition
transition states entries exits l channels = do
  s ← such byte (λ n. ltb n states)
  d ← such byte (λ n. ltb n states)
  x ← such byte (λ n. ltb n exits || eqb n 255)
  i ← such byte (λ n. ltb n entries || eqb n 255)
  b ← label l channels
  yield (record { source = s; destination = d; exit = x; entry = i; label = b })

-- what follows the header of a file with such counts
unfoldable pub records : Counts → Reader Chart
records n = do
  ss ← many n.states (recorded byte (state n.clocks n.entries n.exits))
  ts ← many n.transitions (recorded byte2 (transition n.states n.entries n.exits (limits n.version n.clocks n.variables) (n.rendezvous + n.broadcasts)))
  end
  yield (record { version = n.version; clocks = n.clocks; variables = n.variables; rendezvous = n.rendezvous; broadcasts = n.broadcasts; entries = n.entries; exits = n.exits; states = ss; transitions = ts })

-- 3 for a length, 4 for a field
unfoldable pub numbered : {A : Type 0} → Read A → Answer A
numbered (got a rest) = done a
numbered (fault length_fault) = refused 3
numbered (fault range_fault) = refused 4

-- a version, two bytes that give the length of the rest, and at least eight bytes of counts
unfoldable pub headed : List ℕ → Bool
headed file =
    leb 11 (length file) && (leb (length file) 65536
    && (is_version (get_or file 0 0) && eqb (256 * get_or file 1 0 + get_or file 2 0) (length file - 3)))

unfoldable pub counts_at : List ℕ → Counts
counts_at file = record {
  version = get_or file 0 0;
  states = get_or file 3 0;
  clocks = get_or file 4 0;
  variables = get_or file 5 0;
  rendezvous = get_or file 6 0;
  broadcasts = get_or file 7 0;
  entries = get_or file 8 0;
  exits = get_or file 9 0;
  transitions = get_or file 10 0;
}

unfoldable pub in_range : Counts → Bool
in_range n =
    leb 2 n.states && (leb n.states 48 && (leb n.clocks 8 && (leb n.variables 16 && (leb (n.rendezvous + n.broadcasts) 16
    && (leb 1 n.entries && (leb n.entries 16 && (leb n.exits 8 && leb n.transitions 64)))))))

-- 1: the size and the header; 2: a count outside its range
unfoldable pub counts_of : List ℕ → Answer Counts
counts_of file = unless 1 (headed file) (unless 2 (in_range (counts_at file)) (done (counts_at file)))

unfoldable pub read_chart : List ℕ → Answer Chart
read_chart file = answer.◌>>=◌ (counts_of file) (λ n. numbered (records n (drop 11 file)))

no_state : State
no_state = record { parent = 255; kind = 0; entries = 0; exits = 0; bounds = [] }

-- what is no transition
abbrev pub no_transition : Transition
no_transition = record { source = 255; destination = 255; exit = 255; entry = 255; label = record { signal = 0; channel = 255; resets = 0; body = record { guards = []; updates = [] }; bytes = [] } }

unfoldable pub state_at : Chart → ℕ → State
unfolding no_state
state_at c s = get_or c.states s no_state

unfoldable pub transition_at : Chart → ℕ → Transition
transition_at c t = get_or c.transitions t no_transition

unfoldable pub states : Chart → List ℕ
states c = below (length c.states)

unfoldable pub parent_of : Chart → ℕ → ℕ
parent_of c s = (state_at c s).parent

unfoldable pub basic : Chart → ℕ → Bool
basic c s = eqb (state_at c s).kind 0

unfoldable pub sequential : Chart → ℕ → Bool
sequential c s = eqb (state_at c s).kind 1

unfoldable pub parallel : Chart → ℕ → Bool
parallel c s = eqb (state_at c s).kind 2

-- the sequential state that a transition belongs to
unfoldable pub home : Chart → ℕ → ℕ
home c t = parent_of c (transition_at c t).source
