-- The transitions from a state.
use Rattle.std.specs.Prelude.{ℕ, ◌≤◌, ◌<◌, ◌≡◌, eqb, get_or, length, take}
use mathlib.Core.List.{List, Memᴰ as Mem}
use Rattle.lists.specs.Lists.{keep}
use Rattle.chart_records.specs.Chart.{Chart, transition_at}
use Rattle.chart_records.specs.Laid.{Laid}
use Rattle.chart_records.specs.declared.header.Counts.{Counts}
use Rattle.flattening.specs.Flatten.{Place, child, transitions, all_places, number, bearing_all}
use Rattle.flatten_places.specs.Walking.{Tabulated, Spread}
use Rattle.flatten_places.specs.declared.walk.Tables.{Tables}
use Rattle.flatten_edges.specs.Adding.{Adds}
use Rattle.flatten_edges.specs.Bearing.{Recalled}

-- the transitions from s, ascending
unfoldable pub from_state : Chart → ℕ → List ℕ
from_state c s = keep (λ t. eqb (transition_at c t).source s) (transitions c)

-- they stand first in a table
pub record Sourced (c : Chart) (s : ℕ) (items : List ℕ) (n : ℕ) : Type 0 where
  pub counted : n ≡ length (from_state c s)
  pub stand : take n items ≡ from_state c s

-- the least number that is at least `from` of those that a table names
pub record Least (departures items : List ℕ) (n from least : ℕ) : Type 0 where
  pub after : from ≤ least
  pub none : (k : ℕ) → k < n → from ≤ get_or departures (get_or items k 0) 0 → least ≤ get_or departures (get_or items k 0) 0

-- the numbers i and j are those of a state, from which these transitions come, and of a place: the edges from one to the other are added
abbrev pub BearsAll : Tables → List ℕ → List ℕ → List ℕ → List ℕ → List ℕ → ℕ → ℕ → ℕ → List ℕ → ℕ → List ℕ → ℕ → List ℕ → List ℕ → List ℕ → List ℕ → Type 0
BearsAll t exits homes rest offsets items size i j heads count heads' total sets listed sets' listed' =
    (c : Chart) (n : Counts) (s : ℕ) (q : Place) → Tabulated c t → Spread c exits homes → Laid rest n offsets c
    → Sourced c s items size → i ≡ number c (child s) → j ≡ number c q → Mem q (all_places c)
    → Recalled c s sets listed → Adds heads count heads' total (bearing_all c s q) × Recalled c s sets' listed'
