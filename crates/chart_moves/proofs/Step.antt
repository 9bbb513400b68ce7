-- What a step that is not refused says, and that start and step stay within the trees.
use mathlib.Core.Path.{◌≡◌, refl, sym, ap, ◌∙◌, subst}
use mathlib.Core.Bool.{Bool, true}
use mathlib.Core.Logic.{inr, ⊎_elim}
use mathlib.Core.List.{List, map, map-map, Memᴰ as Mem}
use Prim.Native.Nat.{ℕ, ◌<◌}
use native.Mathlib.Omega.{arith}
use lib.ListN.{length}
use Rattle.lists.specs.Lists.{has}
use Rattle.reading.specs.Answer.{Answer, done, unless}
use Rattle.labels.specs.Label.{Label}
use Rattle.steps.specs.Moves.{allowed, all_stay}
use Rattle.lists.proofs.Bools.{parts, and_l, both}
use Rattle.lists.proofs.Lists.{all_at, all_by, map_at, map_by}
use Rattle.reading.proofs.Answer.{unless_at, unless_by, done_injective}
use Rattle.steps.proofs.Last.{Late, done_late, late_past}
use Rattle.steps.proofs.Moves.{Known, known_at, known_by}
use Rattle.steps.proofs.Sets.{allowed_set_at, allowed_channels}
use Rattle.clocks.proofs.Rows.{ClockValues, values_in_limit, keeps_zeros, in_limit_zeros, zero_past_zeros, zeros_past_zeros}
use Rattle.chart_records.specs.Chart.{Chart, Transition, state_at, transition_at, parent_of, home}
use Rattle.chart_records.specs.Tree.{under}
use Rattle.chart_moves.specs.Machine.{is_active, is_tree, is_configuration, active_transition, after, tested, start, step, bounds_kept}
use Rattle.chart_moves.specs.Active.{is_allowed}
use Rattle.chart_moves.specs.declared.configuration.Configuration.{Configuration}
use Rattle.chart_records.proofs.Entered.{Entry}
use Rattle.chart_moves.proofs.Active.{bounds_kept_by}
use Rattle.chart_records.proofs.Rules.{Passed}
use Rattle.chart_records.proofs.Ranges.{Ranges}
use Rattle.chart_moves.proofs.After.{Fires, start_is_tree, after_is_tree}
use Rattle.chart_rules.proofs.TransitionRules.{siblings_at, entry_at, transition_mem, apart_at}

-- a step that passes the tests up to 20
pub record AllowedStep (c : Chart) (σ : Configuration) (ms : List ℕ) : Type 0 where
  pub given : is_configuration c σ ≡ true
  pub are_known : Known (length c.transitions) ms
  pub each_active : (m : ℕ) → Mem m ms → active_transition c σ (transition_at c m) ≡ true
  pub is_allowed_lem : is_allowed c σ ms ≡ true

-- what a step that is not refused says
pub record Stepped (c : Chart) (σ : Configuration) (ms : List ℕ) (τ : Configuration) : Type 0 where
  pub tests : AllowedStep c σ ms
  pub all_stay_lem : all_stay (map (λ m. (transition_at c m).label) ms) σ.variables ≡ true
  pub bounds_kept_lem : bounds_kept c τ ≡ true
  pub result : after c (map (transition_at c) ms) σ ≡ τ

module _ (c : Chart) (σ : Configuration) (ms : List ℕ) where
  pub allowed_step_at : {x : Answer Configuration} → Late x → step c σ ms ≡ x → AllowedStep c σ ms
  unfolding step
  allowed_step_at late h =
      let a = late_past 17 _ _ late (λ e. omega arith) (λ e. omega arith) h in
      let b = late_past 18 _ _ late (λ e. omega arith) (λ e. omega arith) a.1 in
      let d = late_past 19 _ _ late (λ e. omega arith) (λ e. omega arith) b.1 in
      let e = late_past 20 _ _ late (λ e. omega arith) (λ e. omega arith) d.1 in
      record { given = a.0; are_known = known_at _ ms b.0; each_active = λ m k. all_at _ _ d.0 (map_by (transition_at c) k); is_allowed_lem = e.0 }

  -- what it then answers
  pub allowed_step_by : AllowedStep c σ ms
      → step c σ ms ≡ unless 28 (all_stay (map (λ m. (transition_at c m).label) ms) σ.variables) (tested c (after c (map (transition_at c) ms) σ))
  unfolding step
  allowed_step_by h =
      unless_by 17 _ h.given
      ∙ (unless_by 18 _ (known_by _ ms h.are_known)
      ∙ (unless_by 19 _ (all_by (active_transition c σ) _ (λ t k. let r = map_at (transition_at c) ms k in ap (active_transition c σ) r.2 ∙ h.each_active r.0 r.1))
      ∙ (unless_by 20 _ h.is_allowed_lem
      ∙ ap (λ (ls : List Label). unless 28 (all_stay ls σ.variables) (tested c (after c (map (transition_at c) ms) σ))) (map-map (λ (t : Transition). t.label) (transition_at c) ms))))

  pub step_at : {τ : Configuration} → step c σ ms ≡ done τ → Stepped c σ ms τ
  unfolding tested
  step_at h =
      let a = allowed_step_at done_late h in
      let b = unless_at 28 _ _ (sym (allowed_step_by a) ∙ h) in
      let d = unless_at 21 _ _ b.1 in
      let e = done_injective d.1 in
      record { tests = a; all_stay_lem = b.0; bounds_kept_lem = subst (λ (x : Configuration). bounds_kept c x ≡ true) e d.0; result = e }

-- an active transition's source is active
pub active_source : (c : Chart) (σ : Configuration) (t : Transition) → active_transition c σ t ≡ true → is_active σ t.source ≡ true
unfolding active_transition
active_source c σ t h = and_l (is_active σ t.source) _ h

-- a configuration is a tree
pub configuration_tree : (c : Chart) (σ : Configuration) → is_configuration c σ ≡ true → is_tree c σ ≡ true
unfolding is_configuration
configuration_tree c σ h = and_l (is_tree c σ) _ h

-- the clocks of a configuration are values of 32 bits
pub configuration_clocks : (c : Chart) (σ : Configuration) → is_configuration c σ ≡ true → ClockValues σ.clocks
unfolding is_configuration
configuration_clocks c σ h = values_in_limit c.clocks σ.clocks (search parts) (search parts)

pub configuration_bounds : (c : Chart) (σ : Configuration) → is_configuration c σ ≡ true → bounds_kept c σ ≡ true
unfolding is_configuration
configuration_bounds c σ h = search parts

-- at the start every bound is kept
pub start_bounds : (c : Chart) → bounds_kept c (start c) ≡ true
unfolding start
start_bounds c = bounds_kept_by c (start c) (λ s h a. keeps_zeros (state_at c s).bounds 8)

-- transitions that can be taken together: their sources are active, their homes not nested
pub record Together (c : Chart) (σ : Configuration) (ms : List ℕ) : Type 0 where
  pub each_known : (m : ℕ) → Mem m ms → m < length c.transitions
  pub each_from : (m : ℕ) → Mem m ms → is_active σ (transition_at c m).source ≡ true
  pub homes : (a b : ℕ) → Mem a ms → Mem b ms → under c (home c a) (home c b) ≡ true → a ≡ b

module _ (c : Chart) (passed : Passed c) (ranges : Ranges c) where
  pub fires_at : (σ : Configuration) (t : Transition) → Mem t c.transitions → is_active σ t.source ≡ true → Fires c (is_active σ) t
  fires_at σ t m a =
      let s = siblings_at c t (all_at _ _ passed.transitions m) in
      let r = ranges.of_transition t m in
      record {
        from = record { known = r.source_known; below_root = s.source_below; parent_is = refl };
        to = record { known = r.destination_known; below_root = s.destination_below; parent_is = sym s.same_parent };
        home_sequential = s.home_sequential;
        from_active = a;
        entry_is = entry_at c t r.entry_known (all_at _ _ passed.enter m);
      }

  -- the start
  pub root_entry : Entry c 0 0
  unfolding has
  root_entry = inr (omega arith, ranges.entries_some, ap (λ (x : ℕ). has x 0) passed.entry_marks_lem.root ∙ first)
    where
      first : has 1 0 ≡ true
      first = refl

  pub start_tree : is_tree c (start c) ≡ true
  start_tree = start_is_tree c passed.tree passed.entry_marks_lem (omega (arith, ranges.states_some)) ranges.states_few root_entry

  pub start_configuration : is_configuration c (start c) ≡ true
  unfolding is_configuration start
  start_configuration = both start_tree (both (zeros_past_zeros c.variables 16) (both (in_limit_zeros c.clocks 8) (both (zero_past_zeros c.clocks 8) (start_bounds c))))

  -- the homes of transitions that are allowed together are not nested
  pub allowed_apart : (active : ℕ → Bool) (ms : List ℕ) → ((m : ℕ) → Mem m ms → m < length c.transitions)
      → allowed (λ m. (transition_at c m).label) (home c) active (length c.transitions) c.rendezvous ms ≡ true
      → (a b : ℕ) → Mem a ms → Mem b ms → under c (home c a) (home c b) ≡ true → a ≡ b
  allowed_apart active ms k h a b m n u =
      let w = allowed_set_at _ _ _ _ _ ms h in
      ⊎_elim (λ e. e) (λ e. w.owners a b m n (apart_at c passed.not_nested a b (k a m) (k b n) e.0 e.1 e.2 u)) (allowed_channels w a b m n)

  homes_apart : (σ : Configuration) (ms : List ℕ) → AllowedStep c σ ms → (a b : ℕ) → Mem a ms → Mem b ms → under c (home c a) (home c b) ≡ true → a ≡ b
  homes_apart σ ms s = allowed_apart _ ms s.are_known.each s.is_allowed_lem

  pub allowed_together : (σ : Configuration) (ms : List ℕ) → AllowedStep c σ ms → Together c σ ms
  allowed_together σ ms s = record { each_known = s.are_known.each; each_from = λ m n. active_source c σ _ (s.each_active m n); homes = homes_apart σ ms s }

  pub together_fires : (σ : Configuration) (ms : List ℕ) → Together c σ ms → (m : ℕ) → Mem m ms → Fires c (is_active σ) (transition_at c m)
  together_fires σ ms h m n = fires_at σ (transition_at c m) (transition_mem c m (h.each_known m n)) (h.each_from m n)

  -- taken together they keep the tree
  pub together_tree : (σ : Configuration) (ms : List ℕ) → is_tree c σ ≡ true → Together c σ ms → is_tree c (after c (map (transition_at c) ms) σ) ≡ true
  unfolding home
  together_tree σ ms tree h =
      after_is_tree c passed.tree passed.entry_marks_lem (omega (arith, ranges.states_some)) ranges.states_few σ tree (map (transition_at c) ms) fires apart
    where
      fires : (t : Transition) → Mem t (map (transition_at c) ms) → Fires c (is_active σ) t
      fires t m = let k = map_at (transition_at c) ms m in subst (Fires c (is_active σ)) (sym k.2) (together_fires σ ms h k.0 k.1)

      apart : (t u : Transition) → Mem t (map (transition_at c) ms) → Mem u (map (transition_at c) ms) → under c (parent_of c t.source) (parent_of c u.source) ≡ true → t ≡ u
      apart t u m n v =
          let k = map_at (transition_at c) ms m in
          let l = map_at (transition_at c) ms n in
          let first = subst (λ (x : Transition). under c (parent_of c x.source) (parent_of c u.source) ≡ true) k.2 v in
          let both = subst (λ (x : Transition). under c (parent_of c (transition_at c k.0).source) (parent_of c x.source) ≡ true) l.2 first in
          k.2 ∙ ap (transition_at c) (h.homes k.0 l.0 k.1 l.1 both) ∙ sym l.2
