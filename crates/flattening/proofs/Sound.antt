-- The network of a chart passes what is asked of a network beyond the ranges of its fields: `sound_flatten`.
use mathlib.Core.Path.{◌≡◌, refl, sym, ap, ◌∙◌}
use mathlib.Core.Bool.{Bool, true, false, cond, not, ◌&&◌}
use mathlib.Core.Logic.{⊎_elim}
use mathlib.Core.List.{Memᴰ as Mem}
use Prim.Native.Nat.{ℕ, ◌<◌}
use native.Mathlib.Omega.{arith}
use borrow.Author.Tests.{eqb-true, eq-eqb}
use lib.Dec.{eqb}
use lib.ListN.{length}
use Rattle.lists.specs.Lists.{all, below, concat, distinct}
use Rattle.labels.specs.Label.{assigns_once}
use Rattle.lists.proofs.Bools.{parts, both, or_r, cond_yes}
use Rattle.lists.proofs.Lists.{all_at, all_by, keep_at, keep_by}
use Rattle.lists.proofs.Below.{below_all, below_at, below_by}
use Rattle.lists.proofs.Once.{once_keep, once_below, one_length}
use Rattle.chart_records.specs.Chart.{Chart}
use Rattle.chart_records.specs.Tree.{sequentials}
use Rattle.chart_records.proofs.Rules.{Passed}
use Rattle.chart_records.proofs.Ranges.{Ranges}
use Rattle.chart_rules.proofs.TransitionRules.{transition_mem}
use Rattle.network_records.specs.Network.{Edge, Location, location_at, owner_of, initials, sound}
use Rattle.flattening.specs.Flatten.{Place, same_place, number, automaton, place_home, initial_place, location_of, signalling, flatten}
use Rattle.flattening.proofs.Automata.{region_at, region_at_lem, automaton_of_region}
use Rattle.flattening.proofs.Numbers.{IsPlace, same_place_at, same_place_by, number_lt, location_of_place, automaton_of_place, locations_length, place_of_location}
use Rattle.flattening.proofs.Arrivals.{initial_place_lem}
use Rattle.flattening.proofs.Edges.{edges_at, owner_of_lem, target_of, label_of}
use Rattle.flattening.proofs.Order.{edges_ascend_lem}

-- a label that only signals assigns nothing
signalling_assigns : (signal channel : ℕ) → assigns_once (signalling signal channel) ≡ true
unfolding assigns_once concat distinct signalling
signalling_assigns signal channel = both (or_r (not (eqb signal 2)) refl) refl

-- the location of a place is initial just where its automaton starts
module _ (c : Chart) {p : Place} (k : IsPlace c p) where
  pub initial_at : (location_at (flatten c) (number c p)).initial ≡ 1 → p ≡ initial_place c (place_home c p)
  unfolding location_of
  initial_at h = go (same_place p (initial_place c (place_home c p))) refl (sym (ap (λ (l : Location). l.initial) (location_of_place c k)) ∙ h)
    where
      go : (b : Bool) → same_place p (initial_place c (place_home c p)) ≡ b → ◌≡◌ {A = ℕ} (cond b 1 0) 1 → p ≡ initial_place c (place_home c p)
      go true e z = same_place_at p (initial_place c (place_home c p)) e
      go false e z = absurd (omega arith)

  pub initial_by : p ≡ initial_place c (place_home c p) → (location_at (flatten c) (number c p)).initial ≡ 1
  unfolding location_of
  initial_by e = ap (λ (l : Location). l.initial) (location_of_place c k) ∙ cond_yes 1 0 (ap (same_place p) (sym e) ∙ same_place_by p)

module _ (c : Chart) (passed : Passed c) (ranges : Ranges c) where
  -- the initial location of an automaton
  pub initials_at : (a : ℕ) → a < length (sequentials c) → {i : ℕ} → Mem i (initials (flatten c) a) → i ≡ number c (initial_place c (region_at c a))
  unfolding initials
  initials_at a h {i} m =
      let k = keep_at (λ i. eqb (location_at (flatten c) i).automaton a && eqb (location_at (flatten c) i).initial 1) (below (length (flatten c).locations)) m in
      let t = k.1 in
      let r = place_of_location c a i h (below_at _ k.0) (eqb-true (location_at (flatten c) i).automaton a (search parts)) in
      let starts = initial_at c r.1.is_place (ap (λ (x : ℕ). (location_at (flatten c) x).initial) r.2 ∙ eqb-true (location_at (flatten c) i).initial 1 (search parts)) in
      sym r.2 ∙ ap (number c) (starts ∙ ap (initial_place c) r.1.home_is)

  pub initials_by : (a : ℕ) → a < length (sequentials c) → Mem (number c (initial_place c (region_at c a))) (initials (flatten c) a)
  unfolding initials
  initials_by a h =
      let k = initial_place_lem c passed ranges (region_at_lem c a h) in
      keep_by (λ i. eqb (location_at (flatten c) i).automaton a && eqb (location_at (flatten c) i).initial 1) (below (length (flatten c).locations))
      (below_by (omega (arith, number_lt c k.is_place, locations_length c)))
      (both (eq-eqb _ a (automaton_of_place c k.is_place ∙ ap (automaton c) k.home_is ∙ automaton_of_region c a h)) (eq-eqb _ 1 (initial_by c k.is_place (ap (initial_place c) (sym k.home_is)))))

  -- each automaton has one initial location
  pub one_initial : all (λ a. eqb (length (initials (flatten c) a)) 1) (below (flatten c).automata) ≡ true
  unfolding initials flatten
  one_initial = below_all _ (length (sequentials c)) (λ a h. eq-eqb _ 1 (one_length (initials (flatten c) a) (once_keep _ _ (once_below _)) (number c (initial_place c (region_at c a))) (initials_by a h) (λ i m. initials_at a h m)))

  -- each edge joins two locations of one automaton
  pub edge_joins : {e : Edge} → Mem e (flatten c).edges → owner_of (flatten c) e ≡ (location_at (flatten c) e.target).automaton
  edge_joins {e} m =
      let r = edges_at c m in
      let t = target_of c passed ranges r.0 e r.1 r.2 in
      owner_of_lem c r.0 e r.1 r.2 ∙ ap (automaton c) (sym t.1.home_is) ∙ sym (automaton_of_place c t.1.is_place) ∙ ap (λ (i : ℕ). (location_at (flatten c) i).automaton) (sym t.2)

  pub edges_join : all (λ e. eqb (owner_of (flatten c) e) (location_at (flatten c) e.target).automaton) (flatten c).edges ≡ true
  edges_join = all_by _ (flatten c).edges (λ e m. eq-eqb _ _ (edge_joins m))

  -- each edge keeps rule 13
  pub edges_assign_once : all (λ e. assigns_once e.label) (flatten c).edges ≡ true
  edges_assign_once = all_by _ (flatten c).edges (λ e m. let r = edges_at c m in ⊎_elim
      (λ k. ap assigns_once k.2 ∙ all_at _ _ passed.assign_once (transition_mem c k.0 k.1))
      (λ k. ap assigns_once k.2 ∙ signalling_assigns k.0 k.1)
      (label_of c r.0 e r.1 r.2))

  -- together
  pub sound_flatten : sound (flatten c) ≡ true
  unfolding sound
  sound_flatten = both one_initial (both edges_join (both (edges_ascend_lem c) edges_assign_once))
