-- Tests of the active states, state by state, and the tables of a step's moves.
use Rattle.std.specs.Prelude.{ℕ, ◌≤◌, ◌≡◌, Bool, not, ◌&&◌, ◌||◌, List, map, eqb, length, take}
use Rattle.lists.specs.Lists.{all, keep, implies}
use Rattle.steps.specs.Moves.{allowed}
use Rattle.chart_records.specs.Chart.{Chart, Transition, transition_at, home, parent_of, sequential, parallel}
use Rattle.chart_records.specs.Tree.{under, children}
use Rattle.chart_moves.specs.Machine.{is_active, active_transition}
use Rattle.chart_moves.specs.declared.configuration.Configuration.{Configuration}
use Rattle.chart_moves.specs.declared.moves.Moves.{Moves}
use Rattle.chart_tree.specs.Table.{Column, Rooted}

-- the active states of a configuration of a chart that keeps rule 5, beside tables of its parents and kinds
pub record Shown (c : Chart) (σ : Configuration) (above kinds : List ℕ) (active : List Bool) : Type 0 where
  pub rooted : Rooted c above
  pub kind : Column (λ x. x.kind) c kinds
  pub set : σ.active ≡ active

-- with a state its parent is active, and with an active parallel state each child
abbrev pub linked : Chart → Configuration → ℕ → Bool
linked c σ s = eqb s 0 || (implies (is_active σ s) (is_active σ (parent_of c s)) && implies (parallel c (parent_of c s) && is_active σ (parent_of c s)) (is_active σ s))

-- an active sequential state has one active child
abbrev pub single : Chart → Configuration → ℕ → Bool
single c σ q = implies (sequential c q && is_active σ q) (eqb (length (keep (is_active σ) (children c q))) 1)

-- a state lies below none of these
abbrev pub below_none : Chart → List ℕ → ℕ → Bool
below_none c sources s = all (λ m. not (under c m s)) sources

-- a set of transitions is allowed
abbrev pub is_allowed : Chart → Configuration → List ℕ → Bool
is_allowed c σ ms =
    allowed (λ m. (transition_at c m).label) (home c) (λ m. active_transition c σ (transition_at c m)) (length c.transitions) c.rendezvous ms

-- the tables hold where each transition comes from and goes to, and by which entry
pub record Moved (ts : List Transition) (m : Moves) : Type 0 where
  pub count : m.count ≡ length ts
  pub few : length ts ≤ 16
  pub sources : map (λ t. t.source) ts ≡ take (length ts) m.sources
  pub destinations : map (λ t. t.destination) ts ≡ take (length ts) m.destinations
  pub entries : map (λ t. t.entry) ts ≡ take (length ts) m.entries
