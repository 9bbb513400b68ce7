-- What the code's readers of edges answer.
use Rattle.std.specs.Prelude.{ℕ, ◌+◌, ◌<◌, ◌^◌, ltb, eqb, length, get_or, ◌≡◌, Bool, ◌&&◌, List}
use Rattle.lists.specs.Lists.{implies, subset}
use Rattle.reading.specs.Reading.{got, Reader, yield, ◌>>=◌, byte, byte2, such, recorded}
use Rattle.reading.specs.Places.{onward}
use Rattle.labels.specs.Label.{limits, Label, label, body, assigns_once}
use Rattle.network_records.specs.Network.{Edge, edge}
use Rattle.network_records.specs.declared.header.Counts.{Counts}
use Rattle.network_records.specs.declared.edge.Edge as code

-- the reader of a file's edges, and that of their labels
abbrev pub label_in : Counts → Reader Label
label_in k = label (limits k.version k.clocks k.variables) (k.rendezvous + k.broadcasts)

abbrev pub edge_in : Counts → Reader Edge
edge_in k = edge k.automata k.locations (limits k.version k.clocks k.variables) (k.rendezvous + k.broadcasts)

-- an edge from the automata tested on, after its first four fields
unfoldable pub edge_from_tested : Counts → ℕ → ℕ → ℕ → ℕ → Reader Edge
edge_from_tested k s d t x = do
  m ← such byte2 (λ n. ltb n (2 ^ k.automata) && implies (eqb x 255) (eqb n 0))
  v ← such byte2 (λ n. subset 16 n m)
  w ← byte
  y ← such byte (λ n. subset 8 n w)
  b ← label_in k
  yield (record { source = s; target = d; transition = t; exit = x; tested = m; needed = v; written = w; values = y; label = b })

-- what the check of a file keeps of an edge: whether rule 13 is kept
abbrev pub keeps_once : Edge → Bool
keeps_once e = assigns_once e.label

-- the code's edge is the definition's: its body stands in s
pub record Kept (k : Counts) (s : List ℕ) (c : code.Edge) (e : Edge) : Type 0 where
  pub source : c.source ≡ e.source
  pub target : c.target ≡ e.target
  pub transition : c.transition ≡ e.transition
  pub exit : c.exit ≡ e.exit
  pub tested : c.tested ≡ e.tested
  pub needed : c.needed ≡ e.needed
  pub written : c.written ≡ e.written
  pub values : c.values ≡ e.values
  pub signal : c.signal ≡ e.label.signal
  pub channel : c.channel ≡ e.label.channel
  pub resets : c.resets ≡ e.label.resets
  pub body : (t : List ℕ) × (body (limits k.version k.clocks k.variables) (onward s c.body) ≡ got e.label.body t)

-- each of some edges stands in s at its offset
abbrev pub EdgesAt : Counts → List ℕ → List ℕ → List Edge → Type 0
EdgesAt k s offsets es = (i : ℕ) → i < length es → (d : Edge) → (t : List ℕ) × (recorded byte2 (edge_in k) (onward s (get_or offsets i 0)) ≡ got (get_or es i d) t)
