-- The loops of the check over the transitions of a chart.
use mathlib.Core.Path.{◌≡◌, refl, ap}
use mathlib.Core.Bool.{Bool, true, false}
use mathlib.Core.List.{List, [], ◌∷◌}
use Prim.Native.Nat.{ℕ, ◌+◌, ◌≤◌, ◌<◌}
use native.Mathlib.Omega.{arith}
use native.Mathlib.Decide.{dec_lt}
use lib.ListN.{length, drop, drop_of_length-le}
use Rattle.lists.specs.Lists.{all, below}
use Rattle.lists.proofs.Bools.{clash}
use Rattle.lists.proofs.Parts.{drop_next}
use Rattle.lists.proofs.Lists.{all_at}
use Rattle.lists.proofs.Below.{below_next, below_end}
use Rattle.chart_records.specs.Chart.{Chart, transition_at, home, Transition, no_transition}
use Rattle.chart_records.specs.Rules.{siblings, apart}
use Rattle.chart_records.specs.Laid.{Laid, apart_from}
use Rattle.chart_tree.specs.Table.{Rooted}
use Rattle.chart_records.specs.declared.header.Counts.{Counts}
use Rattle.chart_records.proofs.Tree.{unknown_basic, sequential_not_basic}
use Rattle.chart_rules.proofs.Checks.{Along, along_none, along_more, along_stop, along_all}
use Rattle.chart_rules.proofs.TransitionRules.{siblings_at, transition_mem}

-- what a loop over the transitions has left to see
module _ {rest : List ℕ} {n : Counts} {offsets : List ℕ} {c : Chart} (L : Laid rest n offsets c) (i : ℕ) where
  pub transitions_next : i < n.transitions → drop i c.transitions ≡ transition_at c i ∷ drop (i + 1) c.transitions
  unfolding transition_at
  transitions_next h = drop_next c.transitions i no_transition (omega (arith, L.transitions))

  pub transitions_end : n.transitions ≤ i → drop i c.transitions ≡ []
  transitions_end h = drop_of_length-le c.transitions {i = i} (omega (arith, L.transitions))

-- a loop that tests each transition, where those before i pass
abbrev pub Crossed : (Chart → Transition → Bool) → List ℕ → Counts → List ℕ → ℕ → Type 0
Crossed p rest n offsets i = Along (Laid rest n offsets) p (λ c. c.transitions) i

module _ (p : Chart → Transition → Bool) (rest : List ℕ) (n : Counts) (offsets : List ℕ) where
  pub crossed_none : Crossed p rest n offsets 0
  crossed_none = along_none (Laid rest n offsets) p (λ c. c.transitions)

  module _ {i : ℕ} (t : Crossed p rest n offsets i) where
    module _ {b : Bool} (h : i < n.transitions) (f : (c : Chart) → Laid rest n offsets c → b ≡ p c (transition_at c i)) where
      pub crossed_more : b ≡ true → Crossed p rest n offsets (i + 1)
      crossed_more e = along_more (Laid rest n offsets) p (λ c. c.transitions) i t (λ c. transition_at c i) (λ c L. transitions_next L i h) f e

      pub crossed_stop : b ≡ false → (c : Chart) → Laid rest n offsets c → false ≡ all (p c) c.transitions
      crossed_stop e = along_stop (Laid rest n offsets) p (λ c. c.transitions) i t (λ c. transition_at c i) (λ c L. transitions_next L i h) f e

    pub crossed_all : n.transitions ≤ i → (c : Chart) → Laid rest n offsets c → true ≡ all (p c) c.transitions
    crossed_all h = along_all (Laid rest n offsets) p (λ c. c.transitions) i t (λ c L. transitions_end L i h)

-- the transitions in the bytes, the parents in a table, and rules 5 and 10 kept
abbrev pub Homed : List ℕ → Counts → List ℕ → List ℕ → Chart → Type 0
Homed rest n offsets above c = Laid rest n offsets c × Rooted c above × (all (siblings c) c.transitions ≡ true)

-- a loop that tests each number of a transition, where those before i pass
abbrev pub Numbered : (Chart → ℕ → Bool) → List ℕ → Counts → List ℕ → List ℕ → ℕ → Type 0
Numbered p rest n offsets above i = Along (Homed rest n offsets above) p (λ c. below n.transitions) i

module _ (p : Chart → ℕ → Bool) (rest : List ℕ) (n : Counts) (offsets above : List ℕ) where
  pub numbered_none : Numbered p rest n offsets above 0
  numbered_none = along_none (Homed rest n offsets above) p (λ c. below n.transitions)

  module _ {i : ℕ} (t : Numbered p rest n offsets above i) where
    module _ {b : Bool} (h : i < n.transitions) (f : (c : Chart) → Homed rest n offsets above c → b ≡ p c i) where
      pub numbered_more : b ≡ true → Numbered p rest n offsets above (i + 1)
      numbered_more e = along_more (Homed rest n offsets above) p (λ c. below n.transitions) i t (λ c. i) (λ c L. below_next refl i h) f e

      pub numbered_stop : b ≡ false → (c : Chart) → Homed rest n offsets above c → false ≡ all (p c) (below n.transitions)
      numbered_stop e = along_stop (Homed rest n offsets above) p (λ c. below n.transitions) i t (λ c. i) (λ c L. below_next refl i h) f e

    pub numbered_all : n.transitions ≤ i → (c : Chart) → Homed rest n offsets above c → true ≡ all (p c) (below n.transitions)
    numbered_all h = along_all (Homed rest n offsets above) p (λ c. below n.transitions) i t (λ c L. below_end refl i h)

-- a transition's parent is a state
pub home_known : {rest : List ℕ} {n : Counts} {offsets : List ℕ} {c : Chart} → Laid rest n offsets c → all (siblings c) c.transitions ≡ true → (t : ℕ) → t < n.transitions → home c t < length c.states
unfolding home
home_known {c = c} L S t h =
    let q = (siblings_at c _ (all_at (siblings c) c.transitions S (transition_mem c t (omega (arith, L.transitions))))).home_sequential in
    elim (dec_lt (home c t) (length c.states)) [ yes l ↦ l | no l ↦ clash (unknown_basic c (home c t) (omega arith)) (sequential_not_basic c (home c t) q) ]

-- rule 14 by the counted transitions
pub apart_is : {rest : List ℕ} {n : Counts} {offsets : List ℕ} {c : Chart} → Laid rest n offsets c → apart c ≡ all (λ t. all (apart_from c t) (below n.transitions)) (below n.transitions)
unfolding apart
apart_is {c = c} L = ap (λ (m : ℕ). all (λ t. all (apart_from c t) (below m)) (below m)) L.transitions
