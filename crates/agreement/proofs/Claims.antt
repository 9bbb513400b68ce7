-- What is claimed of related configurations, for the network of a chart that passes.
use mathlib.Core.Path.{◌≡◌}
use mathlib.Core.Bool.{true, false}
use mathlib.Core.Logic.{◌⊎◌}
use mathlib.Core.List.{List, []}
use Prim.Native.Nat.{ℕ, ◌+◌, ◌<◌}
use Rattle.lists.specs.Lists.{distinct}
use Rattle.reading.specs.Answer.{done, refused}
use Rattle.chart_records.specs.Chart.{Chart}
use Rattle.chart_moves.specs.Machine as chart
use Rattle.chart_records.proofs.Rules.{Passed}
use Rattle.chart_records.proofs.Ranges.{Ranges}
use Rattle.network_moves.specs.Machine as network
use Rattle.flattening.specs.Flatten.{flatten}
use Rattle.flattening.specs.Picture.{picture}
use Rattle.agreement.specs.Agreement.{ChartConfiguration, NetworkConfiguration, Accepts, Alike, borne, carried, is_urgent, named}
use Rattle.agreement.proofs.Relation.{Related}

-- nothing owed: the network's configuration is the picture of the chart's
abbrev pub SettledIsPicture : Type 0
SettledIsPicture = (c : Chart) → Passed c → Ranges c → (σ : ChartConfiguration) (ν : NetworkConfiguration) → Related c σ ν 0 → ν ≡ picture c σ

-- and the picture of any configuration of the chart is related to it, with nothing owed
abbrev pub PictureIsSettled : Type 0
PictureIsSettled = (c : Chart) → Passed c → Ranges c → (σ : ChartConfiguration) → chart.is_configuration c σ ≡ true → Related c σ (picture c σ) 0

abbrev pub StartIsPicture : Type 0
StartIsPicture = (c : Chart) → Passed c → Ranges c → network.start (flatten c) ≡ picture c (chart.start c)

abbrev pub StartIsConfiguration : Type 0
StartIsConfiguration = (c : Chart) → Passed c → Ranges c → chart.is_configuration c (chart.start c) ≡ true

-- no move bears a transition twice; and where nothing is owed none is urgent
abbrev pub BearsOnce : Type 0
BearsOnce = (c : Chart) → Passed c → Ranges c → (ν : NetworkConfiguration) (ms : List ℕ) → Accepts (network.step (flatten c) ν ms) → distinct (borne (flatten c) ms) ≡ true

abbrev pub NoUrgentMove : Type 0
NoUrgentMove = (c : Chart) → Passed c → Ranges c → (σ : ChartConfiguration) → chart.is_configuration c σ ≡ true
    → (ms : List ℕ) → Accepts (network.step (flatten c) (picture c σ) ms) → is_urgent (flatten c) ms ≡ false

-- nothing owed: a move of the network carries a chart step, which the chart accepts; then as many moves are owed as are named
abbrev pub MoveIsStep : Type 0
MoveIsStep = (c : Chart) → Passed c → Ranges c → (σ : ChartConfiguration) → chart.is_configuration c σ ≡ true
    → (ms : List ℕ) (ν : NetworkConfiguration) → network.step (flatten c) (picture c σ) ms ≡ done ν
    → (τ : ChartConfiguration) × (chart.step c σ (carried (flatten c) ms) ≡ done τ) × (carried (flatten c) ms ≡ [] → ⊥) × Related c τ ν (named c (carried (flatten c) ms))

-- a chart step is carried by a move, and by one only
abbrev pub StepIsMove : Type 0
StepIsMove = (c : Chart) → Passed c → Ranges c → (σ : ChartConfiguration) → chart.is_configuration c σ ≡ true
    → (ts : List ℕ) → Accepts (chart.step c σ ts) → (ms : List ℕ) × Accepts (network.step (flatten c) (picture c σ) ms) × (carried (flatten c) ms ≡ ts)

abbrev pub OneMove : Type 0
OneMove = (c : Chart) → Passed c → Ranges c → (σ : ChartConfiguration) → chart.is_configuration c σ ≡ true
    → (ms ns : List ℕ) → Accepts (network.step (flatten c) (picture c σ) ms) → Accepts (network.step (flatten c) (picture c σ) ns)
    → carried (flatten c) ms ≡ carried (flatten c) ns → ms ≡ ns

-- where the network gets as far as 28 or 21 and refuses, the chart refuses what is carried by the same number; and a chart list
-- that is refused so is carried by a network list that is
abbrev pub MoveRefused : Type 0
MoveRefused = (c : Chart) → Passed c → Ranges c → (σ : ChartConfiguration) → chart.is_configuration c σ ≡ true
    → (ms : List ℕ) (k : ℕ) → ((k ≡ 28) ⊎ (k ≡ 21)) → network.step (flatten c) (picture c σ) ms ≡ refused k
    → chart.step c σ (carried (flatten c) ms) ≡ refused k

abbrev pub StepRefused : Type 0
StepRefused = (c : Chart) → Passed c → Ranges c → (σ : ChartConfiguration) → chart.is_configuration c σ ≡ true
    → (ts : List ℕ) (k : ℕ) → ((k ≡ 28) ⊎ (k ≡ 21)) → chart.step c σ ts ≡ refused k
    → (ms : List ℕ) × (network.step (flatten c) (picture c σ) ms ≡ refused k) × (carried (flatten c) ms ≡ ts)

-- waits get the same answer with the same number
abbrev pub WaitsAlike : Type 0
WaitsAlike = (c : Chart) → Passed c → Ranges c → (σ : ChartConfiguration) → chart.is_configuration c σ ≡ true
    → (d : ℕ) → Alike (network.wait (flatten c) (picture c σ) d) (chart.wait c σ d)

abbrev pub WaitIsPicture : Type 0
WaitIsPicture = (c : Chart) → Passed c → Ranges c → (σ τ : ChartConfiguration) (d : ℕ) → chart.wait c σ d ≡ done τ
    → (network.wait (flatten c) (picture c σ) d ≡ done (picture c τ)) × (chart.is_configuration c τ ≡ true)

-- and the longest wait is the same
abbrev pub LongestAlike : Type 0
LongestAlike = (c : Chart) → Passed c → Ranges c → (σ : ChartConfiguration) → chart.is_configuration c σ ≡ true
    → network.longest (flatten c) (picture c σ) ≡ chart.longest c σ

-- something owed: no wait, and so 0 is the longest; every move is urgent, carries nothing and pays one; and there is one
abbrev pub NoWaitOwed : Type 0
NoWaitOwed = (c : Chart) → Passed c → Ranges c → (σ : ChartConfiguration) (ν : NetworkConfiguration) (k : ℕ) → Related c σ ν k → 0 < k
    → (d : ℕ) → Accepts (network.wait (flatten c) ν d) → ⊥

abbrev pub LongestOwed : Type 0
LongestOwed = (c : Chart) → Passed c → Ranges c → (σ : ChartConfiguration) (ν : NetworkConfiguration) (k : ℕ) → Related c σ ν k → 0 < k
    → network.longest (flatten c) ν ≡ done 0

abbrev pub MovePays : Type 0
MovePays = (c : Chart) → Passed c → Ranges c → (σ : ChartConfiguration) (ν : NetworkConfiguration) (k : ℕ) → Related c σ ν (k + 1)
    → (ms : List ℕ) (μ : NetworkConfiguration) → network.step (flatten c) ν ms ≡ done μ
    → (is_urgent (flatten c) ms ≡ true) × (carried (flatten c) ms ≡ []) × Related c σ μ k

abbrev pub SomeMove : Type 0
SomeMove = (c : Chart) → Passed c → Ranges c → (σ : ChartConfiguration) (ν : NetworkConfiguration) (k : ℕ) → Related c σ ν (k + 1)
    → (ms : List ℕ) × Accepts (network.step (flatten c) ν ms)

-- all of them
pub record AllClaims : Type 0 where
  pub settled_is_picture : SettledIsPicture
  pub picture_is_settled : PictureIsSettled
  pub start_is_picture : StartIsPicture
  pub start_is_configuration : StartIsConfiguration
  pub bears_once : BearsOnce
  pub no_urgent_move : NoUrgentMove
  pub move_is_step : MoveIsStep
  pub step_is_move : StepIsMove
  pub one_move : OneMove
  pub move_refused : MoveRefused
  pub step_refused : StepRefused
  pub waits_alike : WaitsAlike
  pub wait_is_picture : WaitIsPicture
  pub longest_alike : LongestAlike
  pub no_wait_owed : NoWaitOwed
  pub longest_owed : LongestOwed
  pub move_pays : MovePays
  pub some_move : SomeMove
