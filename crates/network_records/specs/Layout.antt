-- Where the records of a checked file stand, in its bytes after version and length.
use Rattle.std.specs.Prelude.{◌≡◌, true, List, ℕ, ◌+◌, ◌*◌, ◌<◌, length}
use Rattle.reading.specs.Reading.{got, byte, recorded}
use Rattle.reading.specs.Places.{onward}
use Rattle.network_records.specs.Network.{Network, location, location_at, in_range}
use Rattle.network_records.specs.Edges.{EdgesAt}
use Rattle.network_records.specs.declared.header.Counts.{Counts}

-- the bytes of a location's record, its length byte included
abbrev pub location_size : ℕ → ℕ
location_size clocks = 4 + 4 * clocks

-- location records follow the eight bytes of counts
abbrev pub location_place : ℕ → ℕ → ℕ
location_place clocks i = 8 + i * location_size clocks

-- the counts and the locations of n stand in the bytes
pub record Located (rest : List ℕ) (k : Counts) (n : Network) : Type 0 where
  pub in_range_lem : in_range k ≡ true
  pub automata : n.automata ≡ k.automata
  pub clocks : n.clocks ≡ k.clocks
  pub variables : n.variables ≡ k.variables
  pub rendezvous : n.rendezvous ≡ k.rendezvous
  pub locations : length n.locations ≡ k.locations
  pub here : (i : ℕ) → i < k.locations → recorded byte (location k.automata k.clocks) (onward rest (location_place k.clocks i)) ≡ got (location_at n i) (onward rest (location_place k.clocks i + location_size k.clocks))

-- and the edges at their offsets
pub record Laid (rest : List ℕ) (k : Counts) (offsets : List ℕ) (n : Network) : Type 0 where
  pub located : Located rest k n
  pub edges : length n.edges ≡ k.edges
  pub placed : EdgesAt k rest offsets n.edges
