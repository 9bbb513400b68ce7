-- Runs side by side: what is claimed of a chart and the network that flattening writes of it, over any list of calls.
use Rattle.std.specs.Prelude.{ℕ, ◌+◌, ◌-◌, ◌<◌, Bool, true, false, cond, not, ◌⊎◌, List, [], ◌∷◌, ◌++◌, map, ◌≡◌, eqb}
use Rattle.lists.specs.Lists.{any, keep, distinct}
use Rattle.reading.specs.Answer.{Answer, done, refused}
use Rattle.chart_records.specs.Chart.{Chart}
use Rattle.chart_records.specs.Rules.{chart_of}
use Rattle.chart_moves.specs.Machine as chart
use Rattle.chart_moves.specs.declared.configuration.Configuration as chart-type
use Rattle.network_records.specs.Network.{Network, urgent_at, edge_at, network_of}
use Rattle.network_moves.specs.Machine as network
use Rattle.network_moves.specs.declared.configuration.Configuration as network-type
use Rattle.flattening.specs.Flatten.{sorted, has_exit, has_entry}
use Rattle.flattening.specs.Picture.{picture}
use Rattle.flattening.specs.File.{flatten_of}

abbrev pub ChartConfiguration : Type 0
ChartConfiguration = chart-type.Configuration

abbrev pub NetworkConfiguration : Type 0
NetworkConfiguration = network-type.Configuration

-- a call of one machine, on the configuration that the call before it returned or left
pub data Call : Type 0 where
  step : List ℕ → Call
  wait : ℕ → Call

unfoldable pub on_chart : Chart → ChartConfiguration → Call → Answer ChartConfiguration
on_chart c σ (step ms) = chart.step c σ ms
on_chart c σ (wait d) = chart.wait c σ d

unfoldable pub on_network : Network → NetworkConfiguration → Call → Answer NetworkConfiguration
on_network n σ (step ms) = network.step n σ ms
on_network n σ (wait d) = network.wait n σ d

-- what a call returned, or left where it was refused
unfoldable pub left : {A : Type 0} → A → Answer A → A
left a (done b) = b
left a (refused k) = a

-- the transition numbers on a move's edges, without 255; and these ascending
abbrev pub borne : Network → List ℕ → List ℕ
borne n ms = keep (λ t. not (eqb t 255)) (map (λ m. (edge_at n m).transition) ms)

unfoldable pub carried : Network → List ℕ → List ℕ
carried n ms = sorted (borne n ms)

-- a move with an edge that leaves an urgent location
unfoldable pub is_urgent : Network → List ℕ → Bool
is_urgent n ms = any (λ m. urgent_at n (edge_at n m).source) ms

-- the exits and entries that some transitions name together
unfoldable pub named : Chart → List ℕ → ℕ
named c [] = 0
named c (t ∷ ts) = cond (has_exit c t) 1 0 + cond (has_entry c t) 1 0 + named c ts

-- both machines, the chart list read so far, and how many urgent moves are owed
pub record Run : Type 0 where
  pub network : NetworkConfiguration
  pub chart : ChartConfiguration
  pub reading : List Call
  pub owed : ℕ

-- a move that carries ts adds the chart step with this list, and owes what it names; an urgent one carries none, adds
-- nothing and is one of those that are owed
unfoldable pub moved : Chart → NetworkConfiguration → Run → List ℕ → Run
moved c σ r [] = record { network = σ; chart = r.chart; reading = r.reading; owed = r.owed - 1 }
moved c σ r (t ∷ ts) = record {
  network = σ;
  chart = left r.chart (chart.step c r.chart (t ∷ ts));
  reading = r.reading ++ (step (t ∷ ts) ∷ []);
  owed = r.owed + named c (t ∷ ts);
}

-- one more network call: a refused one adds nothing, an accepted wait itself
unfoldable pub extended : Chart → Network → Run → Call → Run
unfolding moved
extended c n r (step ms) = elim (network.step n r.network ms) [ done σ ↦ moved c σ r (carried n ms) | refused k ↦ r ]
extended c n r (wait d) = elim (network.wait n r.network d) [
  | done σ ↦ record { network = σ; chart = left r.chart (chart.wait c r.chart d); reading = r.reading ++ (wait d ∷ []); owed = r.owed }
  | refused k ↦ r
]

unfoldable pub run_from : Chart → Network → Run → List Call → Run
run_from c n r [] = r
run_from c n r (x ∷ xs) = run_from c n (extended c n r x) xs

unfoldable pub run : Chart → Network → List Call → Run
run c n calls = run_from c n (record { network = network.start n; chart = chart.start c; reading = []; owed = 0 }) calls

-- the chart accepts every call of a list
unfoldable pub accepts_all : Chart → ChartConfiguration → List Call → Bool
accepts_all c σ [] = true
accepts_all c σ (x ∷ xs) = elim (on_chart c σ x) [ done τ ↦ accepts_all c τ xs | refused k ↦ false ]

-- what the last call of a chart list returns or leaves
unfoldable pub chart_after : Chart → ChartConfiguration → List Call → ChartConfiguration
chart_after c σ [] = σ
chart_after c σ (x ∷ xs) = chart_after c (left σ (on_chart c σ x)) xs

-- a chart list without its refused calls
unfoldable pub accepted : Chart → ChartConfiguration → List Call → List Call
accepted c σ [] = []
accepted c σ (x ∷ xs) = elim (on_chart c σ x) [ done τ ↦ x ∷ accepted c τ xs | refused k ↦ accepted c σ xs ]

unfoldable pub Accepts : {A : Type 0} → Answer A → Type 0
Accepts {A} a = (b : A) × (a ≡ done b)

-- both accept, or both refuse with the same number
unfoldable pub Alike : {A B : Type 0} → Answer A → Answer B → Type 0
Alike (done a) (done b) = Unit {0}
Alike (done a) (refused k) = ⊥
Alike (refused j) (done b) = ⊥
Alike (refused j) (refused k) = j ≡ k

-- while urgent moves are owed
pub record Owing (n : Network) (r : Run) : Type 0 where
  pub no_wait : (d : ℕ) → Accepts (network.wait n r.network d) → ⊥
  pub longest : network.longest n r.network ≡ done 0
  pub only_urgent : (ms : List ℕ) → Accepts (network.step n r.network ms) → (is_urgent n ms ≡ true) × (carried n ms ≡ [])
  pub some_urgent : (ms : List ℕ) × Accepts (network.step n r.network ms)

-- with none owed
pub record Settled (c : Chart) (n : Network) (r : Run) : Type 0 where
  pub pictures : r.network ≡ picture c r.chart
  pub carries : (ms : List ℕ) → Accepts (network.step n r.network ms) → carried n ms ≡ [] → ⊥
  pub waits : (d : ℕ) → Alike (network.wait n r.network d) (chart.wait c r.chart d)
  pub longest : network.longest n r.network ≡ chart.longest c r.chart
  pub step_moves : (ts : List ℕ) → Accepts (chart.step c r.chart ts) → (ms : List ℕ) × Accepts (network.step n r.network ms) × (carried n ms ≡ ts)
  pub move_steps : (ms : List ℕ) → Accepts (network.step n r.network ms) → Accepts (chart.step c r.chart (carried n ms))
  -- a list of edges and the list of transitions that it carries get the same number wherever the network gets as far as 28 or 21;
  -- and of a chart list that is refused by one of these there is such a list of edges
  pub same_refusal : (ms : List ℕ) (k : ℕ) → ((k ≡ 28) ⊎ (k ≡ 21)) → network.step n r.network ms ≡ refused k
      → chart.step c r.chart (carried n ms) ≡ refused k
  pub refusal_moves : (ts : List ℕ) (k : ℕ) → ((k ≡ 28) ⊎ (k ≡ 21)) → chart.step c r.chart ts ≡ refused k
      → (ms : List ℕ) × (network.step n r.network ms ≡ refused k) × (carried n ms ≡ ts)
  pub only_one : (ms ns : List ℕ) → Accepts (network.step n r.network ms) → Accepts (network.step n r.network ns) → carried n ms ≡ carried n ns → ms ≡ ns

-- one claim about a list of network calls
pub record Agrees (c : Chart) (n : Network) (calls : List Call) : Type 0 where
  pub accepts_reading : accepts_all c (chart.start c) (run c n calls).reading ≡ true
  pub reading_leaves : chart_after c (chart.start c) (run c n calls).reading ≡ (run c n calls).chart
  pub same_variables : (run c n calls).network.variables ≡ (run c n calls).chart.variables
  pub same_clocks : (run c n calls).network.clocks ≡ (run c n calls).chart.clocks
  -- no move bears a transition twice, and none that is urgent bears one
  pub bears_once : (ms : List ℕ) → Accepts (network.step n (run c n calls).network ms) → distinct (borne n ms) ≡ true
  pub urgent_carries_none : (ms : List ℕ) → Accepts (network.step n (run c n calls).network ms) → is_urgent n ms ≡ true → carried n ms ≡ []
  pub owing : 0 < (run c n calls).owed → Owing n (run c n calls)
  pub settled : (run c n calls).owed ≡ 0 → Settled c n (run c n calls)

-- the operations on the two files are those on what they hold
pub record Holds (file bytes : List ℕ) (c : Chart) (n : Network) : Type 0 where
  pub network_is : network_of bytes ≡ done n
  pub chart_starts : chart.start_of file ≡ done (chart.start c)
  pub chart_steps : (σ : ChartConfiguration) (ms : List ℕ) → chart.step_of file σ ms ≡ chart.step c σ ms
  pub chart_waits : (σ : ChartConfiguration) (d : ℕ) → chart.wait_of file σ d ≡ chart.wait c σ d
  pub chart_longest : (σ : ChartConfiguration) → chart.longest_of file σ ≡ chart.longest c σ
  pub network_starts : network.start_of bytes ≡ done (network.start n)
  pub network_steps : (σ : NetworkConfiguration) (ms : List ℕ) → network.step_of bytes σ ms ≡ network.step n σ ms
  pub network_waits : (σ : NetworkConfiguration) (d : ℕ) → network.wait_of bytes σ d ≡ network.wait n σ d
  pub network_longest : (σ : NetworkConfiguration) → network.longest_of bytes σ ≡ network.longest n σ

-- a chart list, but for what is refused, is read from some network list, which leads to where the chart list does
pub record IsRead (c : Chart) (n : Network) (calls : List Call) : Type 0 where
  pub from : List Call
  pub reading_is : (run c n from).reading ≡ accepted c (chart.start c) calls
  pub chart_is : (run c n from).chart ≡ chart_after c (chart.start c) calls
  pub none_owed : (run c n from).owed ≡ 0

-- demand 3: of a chart that flattening accepts and the network that it writes. It is claimed of every list of network
-- calls, so after every call of one
abbrev pub Demand3 : Type 0
Demand3 = (file bytes : List ℕ) (room : ℕ) (c : Chart) → chart_of file ≡ done c → flatten_of file room ≡ done bytes
    → (n : Network) × Holds file bytes c n × ((calls : List Call) → Agrees c n calls) × ((calls : List Call) → IsRead c n calls)
