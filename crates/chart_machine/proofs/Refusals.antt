-- The refusals of a step, of a wait and of the longest wait, in order.
use mathlib.Core.Path.{◌≡◌, refl, sym, ap, ◌∙◌, subst}
use mathlib.Core.Bool.{Bool, true, false, cond, ◌&&◌}
use mathlib.Core.Logic.{◌≢◌}
use mathlib.Core.List.{List, map, map-map}
use Prim.Native.Nat.{ℕ, ◌-◌, ◌≤◌}
use native.Mathlib.Omega.{arith}
use borrow.Author.Tests.{lt-leb, le-leb}
use lib.ListN.{length, take, drop}
use Rattle.std.specs.Prelude.{Option, Some, None}
use Rattle.std.specs.Option.{ok_or}
use Rattle.lists.proofs.Options.{some_where, none_where}
use Rattle.lists.specs.Lists.{all}
use Rattle.clocks.specs.Clocks.{left_where, limit_left, later, in_limit, zero_past, zeros_past}
use Rattle.steps.specs.Moves.{known, allowed, all_stay}
use Rattle.reading.specs.Answer.{done, refused, unless}
use Rattle.reading.specs.Verdict.{answer_of}
use Rattle.reading.specs.declared.refusal.Refusal.TheVariants as Rf
use Rattle.reading.specs.Places.{onward}
use Rattle.reading.proofs.Answer.{unless_by}
use Rattle.reading.proofs.Places.{part_onward}
use Rattle.chart_records.specs.Chart.{Chart, Transition, transition_at, states, home}
use Rattle.chart_moves.specs.Machine.{is_tree, bounds_kept, is_configuration, active_transition, after, tested, step, wait, ticks_under, longest}
use Rattle.chart_moves.specs.Completion.{CompleteIn}
use Rattle.chart_steps.specs.Asked.{Prepared}
use Rattle.chart.specs.Ready.{Ready}
use Rattle.chart_machine.specs.Configured.{stands, Grown}
use Rattle.chart_records.specs.declared.header.Counts.{Counts}
use Rattle.chart_tree.specs.declared.table.Tree.{Tree}
use Rattle.chart_moves.specs.declared.configuration.Configuration.{Configuration}
use Rattle.chart_moves.proofs.Step.{configuration_tree}

pub grown_of : {rest : List ℕ} {n : Counts} {offsets : List ℕ} {tree : Tree} {c : Chart} → Ready rest n offsets tree c → Grown rest n tree c
grown_of R = record { stated = R.laid.stated; tabled = R.tabled; parents = R.parents }

-- what follows version and length, as it is lent
pub ready_part : (file : List ℕ) {n : Counts} {offsets : List ℕ} {tree : Tree} {c : Chart} → Ready (onward file 3) n offsets tree c → Ready (take (length file - 3) (drop 3 file)) n offsets tree c
ready_part file {n} {offsets} {tree} {c} R = subst (λ (l : List ℕ). Ready l n offsets tree c) (sym (part_onward file 3)) R

-- in a configuration of the chart the active states are a tree
pub prepared : {rest : List ℕ} {n : Counts} {offsets rows : List ℕ} {tree : Tree} {σ : Configuration} (c : Chart) → Ready rest n offsets tree c → is_configuration c σ ≡ true → (is_tree c σ ≡ true → CompleteIn c σ rows)
    → Prepared rest n offsets σ rows c
prepared {tree = tree} {σ} c R h f = record { tree = tree; ready = R; complete = f (configuration_tree c σ h) }

-- 17: what stands in the chart and keeps its bounds
last : (a b c d k : Bool) → ((a && (b && (c && d))) && k) ≡ (a && (b && (c && (d && k))))
last false b c d k = refl
last true false c d k = refl
last true true false d k = refl
last true true true d k = refl

module _ (c : Chart) (σ : Configuration) where
  configuration_is : (stands c σ && bounds_kept c σ) ≡ is_configuration c σ
  unfolding stands is_configuration
  configuration_is = last (is_tree c σ) (zeros_past c.variables σ.variables) (in_limit c.clocks σ.clocks) (zero_past c.clocks σ.clocks) (bounds_kept c σ)

  pub stands_not : stands c σ ≡ false → is_configuration c σ ≡ false
  stands_not h = sym configuration_is ∙ ap (λ (b : Bool). b && bounds_kept c σ) h

  pub stands_bounds : stands c σ ≡ true → bounds_kept c σ ≡ is_configuration c σ
  stands_bounds h = sym (ap (λ (b : Bool). b && bounds_kept c σ) h) ∙ configuration_is

-- 21
module _ (c : Chart) (τ : Configuration) where
  pub tested_broken : bounds_kept c τ ≡ false → tested c τ ≡ refused 21
  unfolding tested unless
  tested_broken h = rw h

  pub tested_kept : bounds_kept c τ ≡ true → tested c τ ≡ done τ
  unfolding tested unless
  tested_kept h = rw h

-- of a step
module _ (c : Chart) (σ : Configuration) (ms : List ℕ) where
  pub step_elsewhere : is_configuration c σ ≡ false → step c σ ms ≡ refused 17
  unfolding step unless
  step_elsewhere g = rw g

  module _ {n : ℕ} (e : length c.transitions ≡ n) (g : is_configuration c σ ≡ true) where
    pub step_unknown : known n ms ≡ false → step c σ ms ≡ refused 18
    unfolding step unless
    step_unknown k = rw (g, ap (λ (m : ℕ). known m ms) e ∙ k)

    module _ (k : known n ms ≡ true) where
      pub step_inactive : all (active_transition c σ) (map (transition_at c) ms) ≡ false → step c σ ms ≡ refused 19
      unfolding step unless
      step_inactive a = rw (g, ap (λ (m : ℕ). known m ms) e ∙ k, a)

      module _ (a : all (active_transition c σ) (map (transition_at c) ms) ≡ true) {b : Bool}
          (q : b ≡ allowed (λ m. (transition_at c m).label) (home c) (λ m. active_transition c σ (transition_at c m)) (length c.transitions) c.rendezvous ms) where
        -- what it answers past 19
        pub step_last : step c σ ms
            ≡ unless 20 b (unless 28 (all_stay (map (λ m. (transition_at c m).label) ms) σ.variables) (tested c (after c (map (transition_at c) ms) σ)))
        unfolding step
        step_last =
            unless_by 17 _ g
            ∙ (unless_by 18 _ (ap (λ (m : ℕ). known m ms) e ∙ k)
            ∙ (unless_by 19 _ a
            ∙ rw (← q, map-map (λ (t : Transition). t.label) (transition_at c) ms)))

-- of a wait
module _ (c : Chart) (σ : Configuration) (d : ℕ) where
  pub wait_elsewhere : is_configuration c σ ≡ false → wait c σ d ≡ refused 17
  unfolding wait unless
  wait_elsewhere g = rw g

  module _ (g : is_configuration c σ ≡ true) where
    pub wait_none : d ≡ 0 → wait c σ d ≡ refused 22
    unfolding wait unless
    wait_none z = rw (g, lt-leb 1 d (omega (arith, z)))

    module _ (s : d ≢ 0) {n : ℕ} (e : c.clocks ≡ n) where
      some : 1 ≤ d
      some = omega (arith, s)

      limit : in_limit c.clocks (later c.clocks d σ.clocks) ≡ in_limit n (later n d σ.clocks)
      limit = ap (λ (m : ℕ). in_limit m (later m d σ.clocks)) e

      -- by the clocks so much later, where they are within the limit
      pub wait_late : None ≡ cond (in_limit n (later n d σ.clocks)) (Some (later n d σ.clocks)) None → wait c σ d ≡ refused 22
      unfolding wait unless
      wait_late h = rw (g, le-leb 1 d some, limit ∙ none_where _ _ h)

      pub wait_moved : {cs : List ℕ} → Some cs ≡ cond (in_limit n (later n d σ.clocks)) (Some (later n d σ.clocks)) None
          → wait c σ d ≡ tested c (record { active = σ.active; variables = σ.variables; clocks = cs })
      unfolding wait unless
      wait_moved h =
          let w = some_where _ h in
          rw (g, le-leb 1 d some, limit ∙ w.0)
          (ap (λ (l : List ℕ). tested c (record { active = σ.active; variables = σ.variables; clocks = l })) (ap (λ (m : ℕ). later m d σ.clocks) e ∙ sym w.1))

-- of the longest wait
left_or : (b : Bool) (n : ℕ) → answer_of (ok_or (left_where b n) Rf.ChartConfiguration) ≡ unless 17 b (done n)
unfolding unless
left_or true n = refl
left_or false n = refl

-- by the ticks left, where there are any
pub longest_by : (c : Chart) (σ : Configuration) {left : Option ℕ} → left ≡ left_where (is_configuration c σ) (ticks_under c σ (states c) (limit_left c.clocks σ.clocks))
    → answer_of (ok_or left Rf.ChartConfiguration) ≡ longest c σ
unfolding longest
longest_by c σ e = ap (λ (o : Option ℕ). answer_of (ok_or o Rf.ChartConfiguration)) e ∙ left_or _ _
