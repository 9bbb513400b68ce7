-- The edges that bear a transition, one for each set of automata.
use Rattle.std.specs.Prelude.{ℕ, ◌^◌, ◌≤◌, ◌<◌, ◌≡◌, ◌≢◌, length, get_or, take}
use mathlib.Core.List.{List, Memᴰ as Mem}
use Rattle.labels.specs.Label.{Label}
use Rattle.chart_records.specs.Chart.{Chart, transition_at}
use Rattle.chart_records.specs.Laid.{Laid}
use Rattle.chart_records.specs.Tree.{sequentials}
use Rattle.chart_records.specs.declared.header.Counts.{Counts}
use Rattle.chart_tree.specs.Table.{Tabled}
use Rattle.chart_tree.specs.declared.table.Tree.{Tree}
use Rattle.flattening.specs.Flatten.{Place, child, all_places, number, bearing}
use Rattle.flatten_places.specs.Tables.{Chartered, Automated, FixedIn}
use Rattle.flatten_places.specs.Walking.{Tabulated, Spread}
use Rattle.flatten_places.specs.declared.automaton.Automata.{Automata}
use Rattle.flatten_places.specs.declared.fixed.Fixed.{Fixed}
use Rattle.flatten_places.specs.declared.walk.Tables.{Tables}
use Rattle.flatten_alternatives.specs.Choosing.{choices, Kept}
use Rattle.flatten_edges.specs.Adding.{Adds}
use Rattle.flatten_edges.specs.Ends.{Joins, Signalled, start_off}
use Rattle.flatten_edges.specs.declared.flag.Ends.{Ends}
use Rattle.flatten_edges.specs.declared.flag.Signals.{Signals}

-- e joins p and q, s is of the label l, and the sets xs of automata stand first in a table
pub record BearsEach (c : Chart) (p q : Place) (l : Label) (xs : List ℕ) (e : Ends) (s : Signals) (exit off : ℕ) (sets : List ℕ) (size : ℕ) : Type 0 where
  pub joins : Joins c p q e
  pub signals : Signalled l s
  pub exit_known : exit < 8
  pub off_is : off ≡ start_off c exit
  pub automata_few : length (sequentials c) ≤ 16
  pub few : size ≤ 1024
  pub counted : size ≡ length xs
  pub stand : take size sets ≡ xs
  pub small : (x : ℕ) → Mem x xs → x < 2 ^ length (sequentials c)

-- the sets of a state and one of its exits stand in a table: listed is that exit, 255 for none, and how many they are
pub record Recalled (c : Chart) (s : ℕ) (sets listed : List ℕ) : Type 0 where
  pub long : length sets ≡ 1024
  pub two : length listed ≡ 2
  pub held : get_or listed 0 0 ≢ 255 → Kept sets (get_or listed 1 0) (choices c (get_or listed 0 0) s)

-- then those of the exit e of s do
abbrev pub Recalls : Tree → Fixed → Automata → ℕ → ℕ → List ℕ → List ℕ → List ℕ → List ℕ → ℕ → Type 0
Recalls t f a s e sets listed sets' listed' size =
    (c : Chart) → Chartered c → Tabled c t → FixedIn c f → Automated c a → s < length c.states → e < 8
    → Recalled c s sets listed → Kept sets' size (choices c e s) × Recalled c s sets' listed'

-- the numbers i and j are those of the source s of u and of a place: the edges from one to the other that bear u are added
abbrev pub Bears : Tables → List ℕ → List ℕ → List ℕ → List ℕ → ℕ → ℕ → ℕ → List ℕ → ℕ → List ℕ → ℕ → List ℕ → List ℕ → List ℕ → List ℕ → Type 0
Bears t exits homes rest offsets i j u heads count heads' total sets listed sets' listed' =
    (c : Chart) (n : Counts) (s : ℕ) (q : Place) → Tabulated c t → Spread c exits homes → Laid rest n offsets c
    → u < length c.transitions → (transition_at c u).source ≡ s → i ≡ number c (child s) → j ≡ number c q → Mem q (all_places c)
    → Recalled c s sets listed → Adds heads count heads' total (bearing c q u) × Recalled c s sets' listed'
