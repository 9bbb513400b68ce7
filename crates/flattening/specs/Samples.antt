-- The samples of the paper: what is asked of the operations, and the right answer to each.
use Rattle.std.specs.Prelude.{ℕ, zero, suc, ◌+◌, List, [], ◌∷◌, ◌++◌, map, ℤ, pos, negsuc, replicate}
use Rattle.lists.specs.Lists.{below, concat, elem, padded}
use Rattle.reading.specs.Answer.{Answer, done, refused}
use Rattle.chart_records.specs.Rules.{chart_of}
use Rattle.chart_moves.specs.Machine as chart
use Rattle.chart_moves.specs.declared.configuration.Configuration.{Configuration as ChartConfiguration}
use Rattle.network_moves.specs.Machine as network
use Rattle.network_moves.specs.declared.configuration.Configuration.{Configuration as NetworkConfiguration}
use Rattle.flattening.specs.File.{out2, record_bytes, flatten_of}

-- what is asked
pub data Request : Type 0 where
  check : List ℕ → Request
  flatten : List ℕ → ℕ → Request
  chart_start : List ℕ → Request
  chart_step : List ℕ → ChartConfiguration → List ℕ → Request
  chart_wait : List ℕ → ChartConfiguration → ℕ → Request
  network_start : List ℕ → Request
  network_step : List ℕ → NetworkConfiguration → List ℕ → Request

-- what is answered: a refusal's number, or the result
pub data Reply : Type 0 where
  number : ℕ → Reply
  passes : Reply
  gives : List ℕ → Reply
  chart_at : ChartConfiguration → Reply
  network_at : NetworkConfiguration → Reply

abbrev pub replied : {A : Type 0} → (A → Reply) → Answer A → Reply
replied f (done a) = f a
replied f (refused n) = number n

-- by the definitions
abbrev pub answered : Request → Reply
answered (check file) = replied (λ c. passes) (chart_of file)
answered (flatten file room) = replied gives (flatten_of file room)
answered (chart_start file) = replied chart_at (chart.start_of file)
answered (chart_step file σ ts) = replied chart_at (chart.step_of file σ ts)
answered (chart_wait file σ d) = replied chart_at (chart.wait_of file σ d)
answered (network_start file) = replied network_at (network.start_of file)
answered (network_step file σ es) = replied network_at (network.step_of file σ es)

pub record Sample : Type 0 where
  pub request : Request
  pub right : Reply

infix 3 ◌⇒◌
abbrev pub ◌⇒◌ : Request → Reply → Sample
◌⇒◌ q a = record { request = q; right = a }

-- a chart's file by its counts and the contents of its records
abbrev pub chart_file : List ℕ → List (List ℕ) → List (List ℕ) → List ℕ
chart_file counts ss ts = 1 ∷ record_bytes out2 (counts ++ (concat (record_bytes (λ n. n ∷ [])) ss ++ concat (record_bytes out2) ts))

-- parent, kind, entry marks, exit marks, the bytes of the bounds
abbrev pub state : ℕ → ℕ → ℕ → ℕ → List ℕ → List ℕ
state parent kind entries exits bounds = parent ∷ kind ∷ out2 entries ++ (exits ∷ bounds)

-- configurations: active states, or locations and flags; variables and clocks; what is left out is 0
abbrev pub in_states : List ℕ → List ℤ → List ℕ → ChartConfiguration
in_states active variables clocks = record { active = map (λ s. elem s active) (below 48); variables = padded 16 (pos 0) variables; clocks = padded 8 0 clocks }

abbrev pub in_locations : List ℕ → List ℕ → NetworkConfiguration
in_locations locations flags = record { locations = padded 16 0 locations; flags = padded 16 0 flags; variables = padded 16 (pos 0) []; clocks = padded 8 0 [] }

-- S1, and the network that it gives
abbrev pub chart1 : List ℕ
chart1 =
    1 ∷ 0 ∷ 37 ∷ 3 ∷ 0 ∷ 0 ∷ 0 ∷ 0 ∷ 1 ∷ 0 ∷ 1
    ∷ 5 ∷ 255 ∷ 1 ∷ 0 ∷ 1 ∷ 0
    ∷ 5 ∷ 0 ∷ 0 ∷ 0 ∷ 1 ∷ 0
    ∷ 5 ∷ 0 ∷ 0 ∷ 0 ∷ 0 ∷ 0
    ∷ 0 ∷ 9 ∷ 1 ∷ 2 ∷ 255 ∷ 255 ∷ 0 ∷ 255 ∷ 0 ∷ 0 ∷ 0 ∷ []

abbrev pub network1 : List ℕ
network1 =
    1 ∷ 0 ∷ 0 ∷ 0 ∷ 37 ∷ 1 ∷ 3 ∷ 0 ∷ 1 ∷ 0 ∷ 0 ∷ 0 ∷ 0
    ∷ 3 ∷ 0 ∷ 0 ∷ 0
    ∷ 3 ∷ 0 ∷ 0 ∷ 1
    ∷ 3 ∷ 0 ∷ 0 ∷ 0
    ∷ 0 ∷ 15 ∷ 1 ∷ 2 ∷ 0 ∷ 255 ∷ 0 ∷ 0 ∷ 0 ∷ 0 ∷ 0 ∷ 0 ∷ 0 ∷ 255 ∷ 0 ∷ 0 ∷ 0 ∷ []

-- S3: 2 automata, 7 locations, 6 edges
abbrev pub chart3 : List ℕ
chart3 =
    chart_file (4 ∷ 0 ∷ 0 ∷ 0 ∷ 0 ∷ 2 ∷ 1 ∷ 2 ∷ [])
    (state 255 1 1 0 [] ∷ state 0 0 1 0 [] ∷ state 0 1 2 0 [] ∷ state 2 0 2 1 [] ∷ [])
    ((1 ∷ 2 ∷ 255 ∷ 1 ∷ 0 ∷ 255 ∷ 0 ∷ 0 ∷ 0 ∷ []) ∷ (2 ∷ 1 ∷ 0 ∷ 255 ∷ 0 ∷ 255 ∷ 0 ∷ 0 ∷ 0 ∷ []) ∷ [])

abbrev pub network3 : List ℕ
network3 =
    1 ∷ 0 ∷ 0 ∷ 0 ∷ 138 ∷ 2 ∷ 7 ∷ 0 ∷ 6 ∷ 0 ∷ 0 ∷ 0 ∷ 2
    ∷ 3 ∷ 0 ∷ 0 ∷ 0
    ∷ 3 ∷ 0 ∷ 0 ∷ 1
    ∷ 3 ∷ 0 ∷ 0 ∷ 0
    ∷ 3 ∷ 0 ∷ 1 ∷ 0
    ∷ 3 ∷ 0 ∷ 1 ∷ 0
    ∷ 3 ∷ 1 ∷ 0 ∷ 1
    ∷ 3 ∷ 1 ∷ 0 ∷ 0
    ∷ 0 ∷ 15 ∷ 1 ∷ 3 ∷ 0 ∷ 255 ∷ 0 ∷ 0 ∷ 0 ∷ 0 ∷ 0 ∷ 0 ∷ 0 ∷ 255 ∷ 0 ∷ 0 ∷ 0
    ∷ 0 ∷ 15 ∷ 2 ∷ 4 ∷ 1 ∷ 0 ∷ 0 ∷ 2 ∷ 0 ∷ 2 ∷ 0 ∷ 0 ∷ 0 ∷ 255 ∷ 0 ∷ 0 ∷ 0
    ∷ 0 ∷ 15 ∷ 3 ∷ 2 ∷ 255 ∷ 255 ∷ 0 ∷ 0 ∷ 0 ∷ 0 ∷ 0 ∷ 0 ∷ 1 ∷ 0 ∷ 0 ∷ 0 ∷ 0
    ∷ 0 ∷ 15 ∷ 4 ∷ 1 ∷ 255 ∷ 255 ∷ 0 ∷ 0 ∷ 0 ∷ 0 ∷ 0 ∷ 0 ∷ 1 ∷ 1 ∷ 0 ∷ 0 ∷ 0
    ∷ 0 ∷ 15 ∷ 5 ∷ 6 ∷ 255 ∷ 255 ∷ 0 ∷ 0 ∷ 0 ∷ 0 ∷ 1 ∷ 1 ∷ 2 ∷ 0 ∷ 0 ∷ 0 ∷ 0
    ∷ 0 ∷ 15 ∷ 6 ∷ 5 ∷ 255 ∷ 255 ∷ 0 ∷ 0 ∷ 0 ∷ 0 ∷ 1 ∷ 0 ∷ 2 ∷ 1 ∷ 0 ∷ 0 ∷ 0 ∷ []

-- a sequential state with one basic child, whose transition to itself has this label, in a chart with so many clocks and
-- variables; the child has these bounds
abbrev pub one_loop : ℕ → ℕ → List ℕ → List ℕ → List ℕ
one_loop clocks variables bounds label =
    chart_file (2 ∷ clocks ∷ variables ∷ 0 ∷ 0 ∷ 1 ∷ 0 ∷ 1 ∷ [])
    (state 255 1 1 0 (concat (λ k. replicate 4 255) (below clocks)) ∷ state 0 0 1 0 bounds ∷ [])
    ((1 ∷ 1 ∷ 255 ∷ 255 ∷ label) ∷ [])

-- S4, S5: the bound 3
abbrev pub bounded : List ℕ
bounded = one_loop 1 0 (0 ∷ 0 ∷ 0 ∷ 3 ∷ []) (0 ∷ 255 ∷ 0 ∷ 0 ∷ 0 ∷ [])

-- a chart that assigns two expressions to its variables 0 and 1
abbrev pub assigning : List ℕ → List ℕ → List ℕ
assigning a b = one_loop 0 2 [] (0 ∷ 255 ∷ 0 ∷ 0 ∷ 2 ∷ 0 ∷ a ++ (1 ∷ b))

-- the constants -7, 2,147,483,647 and 1
abbrev pub minus_seven : List ℕ
minus_seven = 0 ∷ 255 ∷ 255 ∷ 255 ∷ 249 ∷ []

abbrev pub greatest : List ℕ
greatest = 0 ∷ 127 ∷ 255 ∷ 255 ∷ 255 ∷ []

abbrev pub one : List ℕ
one = 0 ∷ 0 ∷ 0 ∷ 0 ∷ 1 ∷ []

-- 2,147,483,647 + 1, and the network of a chart that assigns it
abbrev pub beyond : List ℕ
beyond = 2 ∷ greatest ++ one

abbrev pub network_beyond : List ℕ
network_beyond =
    1 ∷ 0 ∷ 0 ∷ 0 ∷ 51 ∷ 1 ∷ 2 ∷ 0 ∷ 1 ∷ 0 ∷ 2 ∷ 0 ∷ 0
    ∷ 3 ∷ 0 ∷ 0 ∷ 0
    ∷ 3 ∷ 0 ∷ 0 ∷ 1
    ∷ 0 ∷ 33 ∷ 1 ∷ 1 ∷ 0 ∷ 255 ∷ 0 ∷ 0 ∷ 0 ∷ 0 ∷ 0 ∷ 0 ∷ 0 ∷ 255 ∷ 0 ∷ 0 ∷ 2 ∷ 0 ∷ beyond ++ (1 ∷ one)

-- a chart with a guard that two expressions are equal
abbrev pub comparing : List ℕ → List ℕ → List ℕ
comparing a b = one_loop 0 0 [] (0 ∷ 255 ∷ 0 ∷ 1 ∷ 0 ∷ 0 ∷ 4 ∷ a ++ b)

-- S8: an expression of one level more than n, in a guard
abbrev pub nested : ℕ → List ℕ
nested zero = one
nested (suc n) = 6 ∷ nested n ++ (0 ∷ 0 ∷ 0 ∷ 3 ∷ [])

abbrev pub guarded : ℕ → List ℕ
guarded n = comparing (nested n) one

-- S10: 3 and 4 or 5 are active in two sequential states side by side; 3 sends on a broadcast, and 5 receives it
abbrev pub heard : List ℕ
heard =
    chart_file (6 ∷ 0 ∷ 0 ∷ 0 ∷ 1 ∷ 1 ∷ 0 ∷ 2 ∷ [])
    (state 255 2 1 0 [] ∷ state 0 1 1 0 [] ∷ state 0 1 1 0 [] ∷ state 1 0 1 0 [] ∷ state 2 0 1 0 [] ∷ state 2 0 0 0 [] ∷ [])
    ((3 ∷ 3 ∷ 255 ∷ 255 ∷ 1 ∷ 0 ∷ 0 ∷ 0 ∷ 0 ∷ []) ∷ (5 ∷ 4 ∷ 255 ∷ 255 ∷ 2 ∷ 0 ∷ 0 ∷ 0 ∷ 0 ∷ []) ∷ [])

-- S1 with n more basic states, and with n more sequential states, each with a basic child
abbrev pub larger : ℕ → List ℕ
larger n =
    chart_file ((3 + n) ∷ 0 ∷ 0 ∷ 0 ∷ 0 ∷ 1 ∷ 0 ∷ 1 ∷ [])
    (state 255 1 1 0 [] ∷ state 0 0 1 0 [] ∷ state 0 0 0 0 [] ∷ map (λ k. state 0 0 0 0 []) (below n))
    ((1 ∷ 2 ∷ 255 ∷ 255 ∷ 0 ∷ 255 ∷ 0 ∷ 0 ∷ 0 ∷ []) ∷ [])

abbrev pub deeper : ℕ → List ℕ
deeper n =
    chart_file ((3 + n + n) ∷ 0 ∷ 0 ∷ 0 ∷ 0 ∷ 1 ∷ 0 ∷ 1 ∷ [])
    (state 255 1 1 0 [] ∷ state 0 0 1 0 [] ∷ state 0 0 0 0 [] ∷ map (λ k. state 0 1 0 0 []) (below n) ++ map (λ k. state (3 + k) 0 0 0 []) (below n))
    ((1 ∷ 2 ∷ 255 ∷ 255 ∷ 0 ∷ 255 ∷ 0 ∷ 0 ∷ 0 ∷ []) ∷ [])

abbrev pub samples : List Sample
samples =
    -- S1
    (flatten chart1 65536 ⇒ gives network1)
    -- S2
    ∷ (flatten chart1 42 ⇒ gives network1)
    ∷ (flatten chart1 41 ⇒ number 16)
    -- S3: each of two steps takes two moves
    ∷ (flatten chart3 65536 ⇒ gives network3)
    ∷ (chart_start chart3 ⇒ chart_at (in_states (0 ∷ 1 ∷ []) [] []))
    ∷ (chart_step chart3 (in_states (0 ∷ 1 ∷ []) [] []) (0 ∷ []) ⇒ chart_at (in_states (0 ∷ 2 ∷ 3 ∷ []) [] []))
    ∷ (chart_step chart3 (in_states (0 ∷ 2 ∷ 3 ∷ []) [] []) (1 ∷ []) ⇒ chart_at (in_states (0 ∷ 1 ∷ []) [] []))
    ∷ (network_start network3 ⇒ network_at (in_locations (1 ∷ 5 ∷ []) []))
    ∷ (network_step network3 (in_locations (1 ∷ 5 ∷ []) []) (0 ∷ []) ⇒ network_at (in_locations (3 ∷ 5 ∷ []) []))
    ∷ (network_step network3 (in_locations (3 ∷ 5 ∷ []) []) (2 ∷ 4 ∷ []) ⇒ network_at (in_locations (2 ∷ 6 ∷ []) (0 ∷ 1 ∷ [])))
    ∷ (network_step network3 (in_locations (2 ∷ 6 ∷ []) (0 ∷ 1 ∷ [])) (1 ∷ []) ⇒ network_at (in_locations (4 ∷ 6 ∷ []) (0 ∷ 1 ∷ [])))
    ∷ (network_step network3 (in_locations (4 ∷ 6 ∷ []) (0 ∷ 1 ∷ [])) (3 ∷ 5 ∷ []) ⇒ network_at (in_locations (1 ∷ 5 ∷ []) []))
    -- S4
    ∷ (chart_wait bounded (in_states (0 ∷ 1 ∷ []) [] (3 ∷ [])) 1 ⇒ number 21)
    ∷ (chart_wait bounded (in_states (0 ∷ 1 ∷ []) [] (2 ∷ [])) 1 ⇒ chart_at (in_states (0 ∷ 1 ∷ []) [] (3 ∷ [])))
    -- S5
    ∷ (chart_wait bounded (in_states (0 ∷ 1 ∷ []) [] (2 ∷ [])) 0 ⇒ number 22)
    -- S6
    ∷ (chart_step (assigning (1 ∷ 1 ∷ []) (1 ∷ 0 ∷ [])) (in_states (0 ∷ 1 ∷ []) (pos 5 ∷ negsuc 7 ∷ []) []) (0 ∷ []) ⇒ chart_at (in_states (0 ∷ 1 ∷ []) (negsuc 7 ∷ pos 5 ∷ []) []))
    -- S7
    ∷ (chart_step (assigning (5 ∷ minus_seven ++ (0 ∷ 0 ∷ 0 ∷ 2 ∷ [])) (6 ∷ minus_seven ++ (0 ∷ 0 ∷ 0 ∷ 2 ∷ []))) (in_states (0 ∷ 1 ∷ []) [] []) (0 ∷ []) ⇒ chart_at (in_states (0 ∷ 1 ∷ []) (negsuc 3 ∷ pos 1 ∷ []) []))
    -- S8
    ∷ (check (guarded 7) ⇒ passes)
    ∷ (check (guarded 8) ⇒ number 4)
    -- in place of S9, 2,147,483,647 + 1: no step assigns it, of a chart or of its network, nor what is left of it less 1
    ∷ (chart_step (assigning beyond one) (in_states (0 ∷ 1 ∷ []) [] []) (0 ∷ []) ⇒ number 28)
    ∷ (chart_step (assigning (3 ∷ beyond ++ one) one) (in_states (0 ∷ 1 ∷ []) [] []) (0 ∷ []) ⇒ number 28)
    ∷ (flatten (assigning beyond one) 65536 ⇒ gives network_beyond)
    ∷ (network_step network_beyond (in_locations (1 ∷ []) []) (0 ∷ []) ⇒ number 28)
    -- and a guard with it does not hold
    ∷ (chart_step (comparing (3 ∷ beyond ++ one) greatest) (in_states (0 ∷ 1 ∷ []) [] []) (0 ∷ []) ⇒ number 19)
    -- S10
    ∷ (chart_step heard (in_states (0 ∷ 1 ∷ 2 ∷ 3 ∷ 4 ∷ []) [] []) (0 ∷ []) ⇒ chart_at (in_states (0 ∷ 1 ∷ 2 ∷ 3 ∷ 4 ∷ []) [] []))
    ∷ (chart_step heard (in_states (0 ∷ 1 ∷ 2 ∷ 3 ∷ 5 ∷ []) [] []) (0 ∷ []) ⇒ number 20)
    -- 48 states, 49 states, 17 sequential states
    ∷ (check (larger 45) ⇒ passes)
    ∷ (check (larger 46) ⇒ number 2)
    ∷ (check (deeper 16) ⇒ number 6)
    ∷ []
