-- How a chart configuration and a network configuration are related while urgent moves are owed.
--
-- After a chart step the chart is where it will be; the network still has to leave the sources (post) and to enter the
-- destinations (pre), one urgent move for each. The transitions whose moves are still to come are pending.
use mathlib.Core.Path.{◌≡◌}
use mathlib.Core.Bool.{Bool, true, false, cond}
use mathlib.Core.List.{List, [], ◌∷◌, map, Memᴰ as Mem}
use mathlib.Core.Logic.{◌⊎◌}
use Prim.Native.Nat.{ℕ, ◌+◌, ◌<◌}
use lib.Dec.{ltb}
use lib.IntN.{ℤ}
use lib.ListN.{length}
use Rattle.lists.specs.Lists.{below, bits_of}
use Rattle.chart_records.specs.Chart.{Chart, transition_at, home}
use Rattle.lists.proofs.Once.{Once}
use Rattle.chart_records.specs.Tree.{under, entered, sequentials}
use Rattle.chart_moves.specs.Machine.{is_active, is_configuration}
use Rattle.chart_records.proofs.Tree.{Child}
use Rattle.network_moves.specs.Machine.{bounds_kept}
use Rattle.flattening.specs.Flatten.{Place, idle, child, pre, post, Pair, number, flag_at, has_exit, has_entry, marks_below, flatten}
use Rattle.flattening.specs.Picture.{pictured}
use Rattle.flattening.proofs.Automata.{Region, region_at}
use Rattle.agreement.specs.Agreement.{ChartConfiguration, NetworkConfiguration}

-- the network configuration in which the automaton of each sequential state q is at the place f q, flags true
unfoldable pub standing : Chart → (ℕ → Place) → List ℤ → List ℕ → NetworkConfiguration
standing c f variables clocks = record {
  locations = map (λ a. cond (ltb a (length (sequentials c))) (number c (f (region_at c a))) 0) (below 16);
  flags = map (λ a. cond (ltb a (length (sequentials c))) (bits_of (flag_at c (region_at c a) (f (region_at c a))) 8) 0) (below 16);
  variables = variables;
  clocks = clocks;
}

-- a transition whose urgent moves are not all made: its automaton is at post (leaving), or at pre
pub record Pending : Type 0 where
  pub transition : ℕ
  pub leaving : Bool

abbrev pub entry_pair : Chart → ℕ → Pair
entry_pair c t = record { state = (transition_at c t).destination; mark = (transition_at c t).entry }

-- how many moves a pending transition still owes, and all of them together
unfoldable pub owes : Chart → Pending → ℕ
owes c p = cond p.leaving (1 + cond (has_entry c p.transition) 1 0) 1

unfoldable pub owes_all : Chart → List Pending → ℕ
owes_all c [] = 0
owes_all c (p ∷ ps) = owes c p + owes_all c ps

-- the automata of states at or below the source or the destination of a pending transition are out of the picture
abbrev pub Concerns : Chart → Pending → ℕ → Type 0
Concerns c p r = (under c (transition_at c p.transition).source r ≡ true) ⊎ (under c (transition_at c p.transition).destination r ≡ true)

-- r has not heard the exit yet: it is at a child that hears it
pub record Hearing (c : Chart) (f : ℕ → Place) (p : Pending) (r : ℕ) : Type 0 where
  pub still : p.leaving ≡ true
  pub below_source : under c (transition_at c p.transition).source r ≡ true
  pub at : ℕ
  pub is_child_lem : Child c r at
  pub hears : marks_below c (transition_at c p.transition).exit at ≡ true
  pub stands : f r ≡ child at

pub record IsPending (c : Chart) (σ : ChartConfiguration) (f : ℕ → Place) (p : Pending) : Type 0 where
  pub known : p.transition < length c.transitions
  pub leaves : p.leaving ≡ true → has_exit c p.transition ≡ true
  pub enters : p.leaving ≡ false → has_entry c p.transition ≡ true
  -- the chart is where the transition leads
  pub arrived : (s : ℕ) → under c (transition_at c p.transition).destination s ≡ true → is_active σ s ≡ entered c (transition_at c p.transition).destination (transition_at c p.transition).entry s
  -- where the automata stand
  pub home_at : f (home c p.transition) ≡ cond p.leaving (post p.transition) (pre (entry_pair c p.transition))
  pub below_at : (r : ℕ) → Region c r → Concerns c p r → (f r ≡ idle r) ⊎ Hearing c f p r

pub record Placed (c : Chart) (σ : ChartConfiguration) (f : ℕ → Place) (ps : List Pending) : Type 0 where
  pub each : (p : Pending) → Mem p ps → IsPending c σ f p
  pub apart : (p r : Pending) → Mem p ps → Mem r ps → under c (home c p.transition) (home c r.transition) ≡ true → p ≡ r
  pub once : Once ps
  -- every other automaton is where the picture has it
  pub others : (q : ℕ) → Region c q → ((p : Pending) → Mem p ps → (q ≡ home c p.transition → ⊥) × (Concerns c p q → ⊥)) → f q ≡ pictured c σ q

-- the two configurations are related, and so many urgent moves are owed
pub record Related (c : Chart) (σ : ChartConfiguration) (ν : NetworkConfiguration) (owed : ℕ) : Type 0 where
  pub configured : is_configuration c σ ≡ true
  pub places : ℕ → Place
  pub pending : List Pending
  pub placed : Placed c σ places pending
  pub network_is : ν ≡ standing c places σ.variables σ.clocks
  -- those of states that are left already, too: their automata have not heard the exit yet
  pub bounds_kept_lem : bounds_kept (flatten c) ν ≡ true
  pub owed_is : owed ≡ owes_all c pending
