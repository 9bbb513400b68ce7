-- The take-up over runs: what the variables of an advance hold after any list of calls of the operations on a file.
use Rattle.std.specs.Prelude.{ℕ, ◌+◌, ◌≤◌, cond, List, [], ◌∷◌, map, ◌≡◌, ℤ}
use Rattle.lists.specs.Lists.{any}
use Rattle.reading.specs.Answer.{Answer, done, refused}
use Rattle.labels.specs.Label.{Label}
use Rattle.updates.specs.TakeUp.{TakenInRange}
use Rattle.labels.specs.TakeUp.{OnlyBy, makes}
use Rattle.updates.specs.declared.update.Advance.{Advance}
use Rattle.chart_records.specs.Chart.{Chart, transition_at}
use Rattle.chart_records.specs.Rules.{chart_of}
use Rattle.chart_moves.specs.Machine as chart
use Rattle.network_records.specs.Network.{Network, edge_at, network_of}
use Rattle.network_moves.specs.Machine as network
use Rattle.agreement.specs.Agreement.{ChartConfiguration, NetworkConfiguration, Call, step, wait, left}

-- a call of the operations on a file
unfoldable pub chart_call : List ℕ → ChartConfiguration → Call → Answer ChartConfiguration
chart_call file σ (step ms) = chart.step_of file σ ms
chart_call file σ (wait d) = chart.wait_of file σ d

unfoldable pub network_call : List ℕ → NetworkConfiguration → Call → Answer NetworkConfiguration
network_call file σ (step ms) = network.step_of file σ ms
network_call file σ (wait d) = network.wait_of file σ d

-- where some calls lead: each is made on what the one before it returned, or left where it was refused
unfoldable pub after_calls : {A : Type 0} → (A → Call → Answer A) → A → List Call → A
after_calls call σ [] = σ
after_calls call σ (x ∷ xs) = after_calls call (left σ (call σ x)) xs

-- an accepted step makes the advance once if the label of any of its members makes it. Waits and refused calls do not
unfoldable pub made_by : {A : Type 0} → Advance → (ℕ → Label) → Call → Answer A → ℕ
made_by a label (step ms) (done τ) = cond (any (λ m. makes a (label m)) ms) 1 0
made_by a label (step ms) (refused k) = 0
made_by a label (wait d) r = 0

-- how many of the accepted steps among some calls make it
unfoldable pub advances_made : {A : Type 0} → Advance → (ℕ → Label) → (A → Call → Answer A) → A → List Call → ℕ
advances_made a label call σ [] = 0
advances_made a label call σ (x ∷ xs) = made_by a label x (call σ x) + advances_made a label call (left σ (call σ x)) xs

-- from a configuration: after any list of calls the variables hold as many advances as were made. These are in the range, since a
-- step that would leave it is refused (28), and the next advance is in it as long as its whole part is
abbrev pub TakesUp : {A : Type 0} → Advance → (ℕ → Label) → (A → Call → Answer A) → (A → List ℤ) → A → Type 0
TakesUp a label call variables σ =
    (calls : List Call) → TakenInRange a (advances_made a label call σ calls) (variables (after_calls call σ calls))

-- of a chart in which nothing but the advance writes either of its variables
abbrev pub TakeUpOfCharts : Type 0
TakeUpOfCharts = (file : List ℕ) (c : Chart) (a : Advance) → chart_of file ≡ done c
    → 1 ≤ a.denominator → OnlyBy a (map (λ t. t.label) c.transitions)
    → (σ : ChartConfiguration) → chart.start_of file ≡ done σ
    → TakesUp a (λ t. (transition_at c t).label) (chart_call file) (λ τ. τ.variables) σ

-- and of any such network, flattened or not
abbrev pub TakeUpOfNetworks : Type 0
TakeUpOfNetworks = (file : List ℕ) (n : Network) (a : Advance) → network_of file ≡ done n
    → 1 ≤ a.denominator → OnlyBy a (map (λ e. e.label) n.edges)
    → (σ : NetworkConfiguration) → network.start_of file ≡ done σ
    → TakesUp a (λ m. (edge_at n m).label) (network_call file) (λ τ. τ.variables) σ
