-- The records of a network's file, and what the code knows of the edges that it writes.
use Rattle.std.specs.Prelude.{ℕ, ◌<◌, ◌≤◌, ◌≡◌, cond, eqb, length}
use mathlib.Core.List.{List, [], ◌∷◌, Memᴰ as Mem}
use Rattle.network_records.specs.Network.{Location, Edge}
use Rattle.chart_records.specs.Chart.{Chart, transition_at}
use Rattle.chart_records.specs.Laid.{Laid}
use Rattle.chart_records.specs.declared.header.Counts.{Counts}
use Rattle.flattening.specs.File.{out2, location_bytes, edge_bytes, record_bytes}
use Rattle.flatten_edges.specs.Gathering.{Gathered}

unfoldable pub location_record : ℕ → Location → List ℕ
location_record clocks l = record_bytes (λ k. k ∷ []) (location_bytes clocks l)

unfoldable pub edge_record : Edge → List ℕ
edge_record e = record_bytes out2 (edge_bytes e)

-- the body of the label of an edge that bears a transition of the chart, or none (255)
unfoldable pub body_of : Chart → ℕ → List ℕ
body_of c t = cond (eqb t 255) (0 ∷ 0 ∷ []) (transition_at c t).label.bytes

-- the number of a transition of the chart, or 255
abbrev pub Named : Chart → ℕ → Type 0
Named c t = (t ≡ 255 → ⊥) → t < length c.transitions

pub record Bodied (c : Chart) (e : Edge) : Type 0 where
  pub named : Named c e.transition
  pub body : e.label.bytes ≡ body_of c e.transition

-- the heads of these edges are gathered, and their bodies stand in the chart's bytes
pub record Writable (heads : List ℕ) (count : ℕ) (rest offsets : List ℕ) (c : Chart) (es : List Edge) : Type 0 where
  pub counts : Counts
  pub laid : Laid rest counts offsets c
  pub gathered : Gathered heads count es
  pub few : length es ≤ 1024
  pub bodied : (e : Edge) → Mem e es → Bodied c e
