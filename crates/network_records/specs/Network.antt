-- Networks of timed automata, and the file that holds one.
use Rattle.std.specs.Prelude.{ℕ, ◌+◌, ◌*◌, ◌-◌, ◌^◌, Bool, true, false, ◌&&◌, ◌||◌, List, [], ◌∷◌, leb, ltb, eqb, get_or, length}
use Rattle.lists.specs.Lists.{all, below, keep, implies, subset}
use Rattle.reading.specs.Reading.{length_fault, range_fault, Read, got, fault, Reader, yield, ◌>>=◌, ◌>>◌, byte, byte2, such, many, end, recorded}
use Rattle.reading.specs.Places.{onward}
use Rattle.reading.specs.Version.{is_version}
use Rattle.labels.specs.Label.{limits, Label, label, assigns_once}
use Rattle.labels.specs.declared.label.Limits.{Limits}
use Rattle.clocks.specs.Clocks.{row}
use Rattle.reading.specs.Answer.{Answer, done, refused, unless}
use Rattle.reading.specs.Answer as answer
use Rattle.network_records.specs.declared.header.Counts.{Counts}

pub record Location : Type 0 where
  pub automaton : ℕ
  pub urgent : ℕ
  pub initial : ℕ
  pub bounds : List ℕ

pub record Edge : Type 0 where
  pub source : ℕ
  pub target : ℕ
  pub transition : ℕ  -- 255: none
  pub exit : ℕ  -- the exit tested; 255: none
  pub tested : ℕ  -- the automata whose flag for it is tested, as bits
  pub needed : ℕ  -- and the values that they must have
  pub written : ℕ  -- the exits whose flag of the own automaton is written, as bits
  pub values : ℕ
  pub label : Label

pub record Network : Type 0 where
  pub version : ℕ
  pub automata : ℕ
  pub clocks : ℕ
  pub variables : ℕ
  pub rendezvous : ℕ
  pub broadcasts : ℕ
  pub locations : List Location
  pub edges : List Edge

unfoldable pub location : ℕ → ℕ → Reader Location
location automata clocks = do
  a ← such byte (λ a. ltb a automata)
  u ← such byte (λ u. ltb u 2)
  i ← such byte (λ i. ltb i 2)
  r ← row clocks
  yield (record { automaton = a; urgent = u; initial = i; bounds = r })

unfoldable pub edge : ℕ → ℕ → Limits → ℕ → Reader Edge
edge automata locations l channels = do
  s ← such byte (λ n. ltb n locations)
  d ← such byte (λ n. ltb n locations)
  t ← such byte (λ n. ltb n 64 || eqb n 255)
  x ← such byte (λ n. ltb n 8 || eqb n 255)
  m ← such byte2 (λ n. ltb n (2 ^ automata) && implies (eqb x 255) (eqb n 0))
  v ← such byte2 (λ n. subset 16 n m)
  w ← byte
  y ← such byte (λ n. subset 8 n w)
  b ← label l channels
  yield (record { source = s; target = d; transition = t; exit = x; tested = m; needed = v; written = w; values = y; label = b })

-- the records of a file with these counts
unfoldable pub records : Counts → Reader Network
records k = do
  ls ← many k.locations (recorded byte (location k.automata k.clocks))
  es ← many k.edges (recorded byte2 (edge k.automata k.locations (limits k.version k.clocks k.variables) (k.rendezvous + k.broadcasts)))
  end
  yield (record { version = k.version; automata = k.automata; clocks = k.clocks; variables = k.variables; rendezvous = k.rendezvous; broadcasts = k.broadcasts; locations = ls; edges = es })

-- 24 for a length, 25 for a field
unfoldable pub numbered : {A : Type 0} → Read A → Answer A
numbered (got a rest) = done a
numbered (fault length_fault) = refused 24
numbered (fault range_fault) = refused 25

-- at least 13 bytes: a version, four that give the length of the rest, and eight of counts
unfoldable pub headed : List ℕ → Bool
headed file =
    leb 13 (length file)
    && (is_version (get_or file 0 0)
    && eqb (256 * (256 * (256 * get_or file 1 0 + get_or file 2 0) + get_or file 3 0) + get_or file 4 0) (length file - 5))

-- the version, and the counts of automata, locations, edges (two bytes), clocks, variables, rendezvous and broadcast channels
abbrev pub counts_at : List ℕ → Counts
counts_at file = record {
  version = get_or file 0 0;
  automata = get_or file 5 0;
  locations = get_or file 6 0;
  edges = 256 * get_or file 7 0 + get_or file 8 0;
  clocks = get_or file 9 0;
  variables = get_or file 10 0;
  rendezvous = get_or file 11 0;
  broadcasts = get_or file 12 0;
}

abbrev pub in_range : Counts → Bool
in_range k =
    leb 1 k.automata
    && (leb k.automata 16
    && (leb 1 k.locations
    && (leb k.locations 192
    && (leb k.edges 1024
    && (leb k.clocks 8
    && (leb k.variables 16
    && (leb k.rendezvous 16
    && leb k.broadcasts 144)))))))

-- 24: the counts of a file whose header is right and whose counts are in range
unfoldable pub counts_of : List ℕ → Answer Counts
counts_of file = unless 24 (headed file && in_range (counts_at file)) (done (counts_at file))

unfoldable pub read_network : List ℕ → Answer Network
read_network file = answer.◌>>=◌ (counts_of file) (λ k. numbered (records k (onward file 13)))

-- what stands for a location that is not there
abbrev pub zero_location : Location
zero_location = record { automaton = 0; urgent = 0; initial = 0; bounds = [] }

unfoldable pub location_at : Network → ℕ → Location
location_at n i = get_or n.locations i zero_location

unfoldable pub urgent_at : Network → ℕ → Bool
urgent_at n l = eqb (location_at n l).urgent 1

silent : Label
silent = record { signal = 0; channel = 255; resets = 0; body = record { guards = []; updates = [] }; bytes = [] }

-- what stands for an edge that is not there
pub no_edge : Edge
unfolding silent
no_edge = record { source = 255; target = 255; transition = 255; exit = 255; tested = 0; needed = 0; written = 0; values = 0; label = silent }

unfoldable pub edge_at : Network → ℕ → Edge
unfolding no_edge silent
edge_at n i = get_or n.edges i no_edge

-- the automaton of an edge
unfoldable pub owner_of : Network → Edge → ℕ
owner_of n e = (location_at n e.source).automaton

-- the locations of an automaton with the initial mark
unfoldable pub initials : Network → ℕ → List ℕ
initials n a = keep (λ i. eqb (location_at n i).automaton a && eqb (location_at n i).initial 1) (below (length n.locations))

-- by source, target, transition, automata tested and channel
unfoldable pub lex_less : List ℕ → List ℕ → Bool
lex_less [] [] = false
lex_less [] (y ∷ ys) = true
lex_less (x ∷ xs) [] = false
lex_less (x ∷ xs) (y ∷ ys) = ltb x y || (eqb x y && lex_less xs ys)

unfoldable pub key : Edge → List ℕ
key e = e.source ∷ e.target ∷ e.transition ∷ e.tested ∷ e.label.channel ∷ []

unfoldable pub edges_ascend : List Edge → Bool
unfolding lex_less
edges_ascend [] = true
edges_ascend (e ∷ []) = true
edges_ascend (e ∷ f ∷ es) = lex_less (key e) (key f) && edges_ascend (f ∷ es)

unfoldable pub sound : Network → Bool
sound n =
    all (λ a. eqb (length (initials n a)) 1) (below n.automata)
    && (all (λ e. eqb (owner_of n e) (location_at n e.target).automaton) n.edges
    && (edges_ascend n.edges
    && all (λ e. assigns_once e.label) n.edges))

unfoldable pub network_of : List ℕ → Answer Network
network_of file = answer.◌>>=◌ (read_network file) (λ n. unless 25 (sound n) (done n))
