-- The take-up over runs, of charts and of networks. It is shown once, by induction over the calls, of what the two machines
-- have in common (`Carries`).
use mathlib.Core.Path.{◌≡◌, refl, sym, ap, ◌∙◌, subst}
use mathlib.Core.Bool.{true, cond}
use mathlib.Core.List.Memᴰ.{cast}
use mathlib.Core.List.Memᴰ.{head as here}
use mathlib.Core.List.Memᴰ.{tail as there}
use mathlib.Core.List.{List, [], ◌∷◌, map, map-map, Memᴰ as Mem}
use Prim.Native.Nat.{ℕ, zero, suc, ◌+◌, ◌≤◌, ◌<◌}
use native.Mathlib.Omega.{arith}
use native.Mathlib.Nat.{add-zero, zero-add}
use lib.IntN.{ℤ, pos}
use lib.ListN.{length, get_or, replicate}
use Rattle.lists.specs.Lists.{any}
use Rattle.reading.specs.Answer.{Answer, done, refused}
use Rattle.reading.specs.Answer as answer
use Rattle.updates.specs.Update.{Update, form_of, writes, advance}
use Rattle.labels.specs.Label.{Label, assigns_once}
use Rattle.updates.specs.TakeUp.{TakenUp}
use Rattle.labels.specs.TakeUp.{OnlyBy, makes}
use Rattle.updates.specs.declared.update.Advance.{Advance}
use Rattle.steps.specs.Moves.{all_stay, variables_after}
use Rattle.chart_records.specs.Chart.{Chart, Transition, transition_at}
use Rattle.chart_records.specs.Rules.{chart_of}
use Rattle.chart_moves.specs.Machine as chart
use Rattle.network_records.specs.Network.{Network, Edge, edge_at, network_of}
use Rattle.network_moves.specs.Machine as network
use Rattle.agreement.specs.Agreement.{ChartConfiguration, NetworkConfiguration, Call, step, wait, left}
use Rattle.agreement.specs.TakeUp.{chart_call, network_call, after_calls, made_by, advances_made, TakesUp, TakeUpOfCharts, TakeUpOfNetworks}
use Rattle.lists.proofs.Lists.{all_at, any_at, any_map, get_d_mem, map_at, map_by}
use Rattle.reading.proofs.Answer.{unless_at, done_injective}
use Rattle.updates.proofs.Advances.{InRange, Apart, taken_in_range, taken_up_none, none_in_range, assign_length}
use Rattle.labels.proofs.TakeUp.{updates_of, made_by_lem, labels_take_up, labels_in_range, two_variables}
use Rattle.labels.proofs.LabelRanges.{updates_known}
use Rattle.chart_records.proofs.Ranges.{chart_at_lem}
use Rattle.chart_moves.proofs.Step.{Stepped, step_at}
use Rattle.network_records.proofs.Ranges.{network_labels}
use Rattle.agreement.proofs.Accepted.{Accepted, accepted_at}

-- what is needed of a machine with these labels: a step carries out the updates of its members' labels, which stay in the range, a
-- wait leaves the variables, and the labels keep rule 13 and write variables of the sixteen
record Carries {A : Type 0} (ls : List Label) (label : ℕ → Label) (call : A → Call → Answer A) (variables : A → List ℤ) : Type 0 where
  steps : (σ : A) (ms : List ℕ) {τ : A} → call σ (step ms) ≡ done τ → variables τ ≡ variables_after (map label ms) (variables σ)
  stay : (σ : A) (ms : List ℕ) {τ : A} → call σ (step ms) ≡ done τ → all_stay (map label ms) (variables σ) ≡ true
  members : (σ : A) (ms : List ℕ) {τ : A} → call σ (step ms) ≡ done τ → (m : ℕ) → Mem m ms → Mem (label m) ls
  waits : (σ : A) (d : ℕ) {τ : A} → call σ (wait d) ≡ done τ → variables τ ≡ variables σ
  once : (l : Label) → Mem l ls → assigns_once l ≡ true
  known : (l : Label) → Mem l ls → (u : Update) → Mem u l.body.updates → (v : ℕ) → Mem v (writes (form_of u)) → v < 16

module _ {A : Type 0} {ls : List Label} {label : ℕ → Label} {call : A → Call → Answer A} {variables : A → List ℤ}
    (M : Carries ls label call variables) (a : Advance) (divides : 1 ≤ a.denominator) (only : OnlyBy a ls) where
  -- an advance that is made has two variables, both of the sixteen
  apart : (l : Label) → Mem l ls → makes a l ≡ true → Apart a 16
  apart l m h =
      let u = made_by_lem a l ls only m h in
      record {
        two = two_variables a l (M.once l m) u;
        steps_there = M.known l m (advance a) u a.steps (here refl);
        remainder_there = M.known l m (advance a) u a.remainder (there (here refl));
      }

  -- what every call keeps: the variables are sixteen and hold k advances, which are in the range
  record Holding (k : ℕ) (vars : List ℤ) : Type 0 where
    long : length vars ≡ 16
    taken_up : TakenUp a k vars
    in_range_lem : InRange a k

  -- an accepted step
  module _ (σ : A) (ms : List ℕ) {τ : A} (e : call σ (step ms) ≡ done τ) where
    among : (l : Label) → Mem l (map label ms) → Mem l ls
    among l m = let r = map_at label ms m in cast r.2 (M.members σ ms e r.0 r.1)

    there_if_made : length (variables σ) ≡ 16 → any (makes a) (map label ms) ≡ true → Apart a (length (variables σ))
    there_if_made long h =
        let r = any_at (makes a) (map label ms) h in
        subst (Apart a) (sym long) (apart r.0 (among r.0 r.1) r.2)

    step_holds : (k : ℕ) → Holding k (variables σ) → Holding (k + cond (any (λ m. makes a (label m)) ms) 1 0) (variables τ)
    unfolding all_stay variables_after
    step_holds k h =
        let only-these : OnlyBy a (map label ms) = λ l m. only l (among l m) in
        rw (M.steps σ ms e, ← any_map (makes a) label ms) (record {
          long = assign_length (variables σ) (updates_of (map label ms)) (variables σ) ∙ h.long;
          taken_up = labels_take_up a (map label ms) k (variables σ) divides only-these (there_if_made h.long) h.taken_up;
          in_range_lem = labels_in_range a (map label ms) k (variables σ) divides only-these (M.stay σ ms e) h.taken_up h.in_range_lem;
        })

  -- a call, accepted or refused
  call_holds : (x : Call) (r : Answer A) (σ : A) (k : ℕ) → call σ x ≡ r → Holding k (variables σ)
      → Holding (k + made_by a label x r) (variables (left σ r))
  unfolding made_by left
  call_holds (step ms) (done τ) σ k e h = step_holds σ ms e k h
  call_holds (step ms) (refused j) σ k e h = rw (add-zero k) h
  call_holds (wait d) (done τ) σ k e h = rw (add-zero k, M.waits σ d e) h
  call_holds (wait d) (refused j) σ k e h = rw (add-zero k) h

  -- some calls after k advances
  run_holds : (calls : List Call) (σ : A) (k : ℕ) → Holding k (variables σ)
      → Holding (k + advances_made a label call σ calls) (variables (after_calls call σ calls))
  unfolding advances_made after_calls
  run_holds [] σ k h = rw (add-zero k) h
  run_holds (x ∷ xs) σ k h =
      let made = made_by a label x (call σ x) in
      let τ = left σ (call σ x) in
      let later = advances_made a label call τ xs in
      let e : k + made + later ≡ k + (made + later) = omega arith in
      subst (λ (n : ℕ). Holding n (variables (after_calls call τ xs))) e (run_holds xs τ (k + made) (call_holds x (call σ x) σ k refl h))

  -- from a configuration whose sixteen variables are zero
  takes_up : (σ : A) → variables σ ≡ replicate 16 (pos 0) → TakesUp a label call variables σ
  takes_up σ z calls =
      let none = taken_up_none a (variables σ) (rw z (zeros 16 a.steps)) (rw z (zeros 16 a.remainder)) in
      let all = zero-add (advances_made a label call σ calls) in
      let h = run_holds calls σ 0 (record { long = ap length z; taken_up = none; in_range_lem = none_in_range a }) in
      rw (← all) (taken_in_range a _ _ divides h.taken_up h.in_range_lem)
    where
      zeros : (n v : ℕ) → get_or (replicate n (pos 0)) v (pos 0) ≡ pos 0
      zeros zero v = refl
      zeros (suc n) zero = refl
      zeros (suc n) (suc v) = zeros n v

-- the machine of a chart file
module _ (file : List ℕ) (c : Chart) (h : chart_of file ≡ done c) where
  chart_step_lem : (σ : ChartConfiguration) (ms : List ℕ) {τ : ChartConfiguration} → chart_call file σ (step ms) ≡ done τ → Stepped c σ ms τ
  unfolding chart_call chart.step_of answer.◌>>=◌
  chart_step_lem σ ms e = step_at c σ ms (rw h at e)

  chart_wait_lem : (σ : ChartConfiguration) (d : ℕ) {τ : ChartConfiguration} → chart_call file σ (wait d) ≡ done τ → τ.variables ≡ σ.variables
  unfolding chart_call chart.wait_of chart.wait chart.tested answer.◌>>=◌
  chart_wait_lem σ d e =
      let a = unless_at 17 _ _ (rw h at e) in
      let b = unless_at 22 _ _ a.1 in
      sym (ap (λ (x : ChartConfiguration). x.variables) (done_injective (unless_at 21 _ _ b.1).1))

  chart_starts : (σ : ChartConfiguration) → chart.start_of file ≡ done σ → σ.variables ≡ replicate 16 (pos 0)
  unfolding chart.start_of chart.start answer.◌>>=◌
  chart_starts σ e = sym (ap (λ (x : ChartConfiguration). x.variables) (done_injective (rw h at e)))

  chart_carries : Carries (map (λ t. t.label) c.transitions) (λ t. (transition_at c t).label) (chart_call file) (λ σ. σ.variables)
  unfolding chart.after transition_at
  chart_carries =
      let label_of : Transition → Label = λ t. t.label in
      let (passed, ranges) = chart_at_lem file h in
      record {
        steps = λ σ ms e.
            sym (ap (λ (x : ChartConfiguration). x.variables) (chart_step_lem σ ms e).result)
            ∙ ap (λ (ls : List Label). variables_after ls σ.variables) (map-map label_of (transition_at c) ms);
        stay = λ σ ms e. (chart_step_lem σ ms e).all_stay_lem;
        members = λ σ ms e m j. map_by label_of (get_d_mem c.transitions m _ ((chart_step_lem σ ms e).tests.are_known.each m j));
        waits = chart_wait_lem;
        once = λ l m.
            let t = map_at label_of c.transitions m in
            ap assigns_once t.2 ∙ all_at (λ (t : Transition). assigns_once t.label) c.transitions passed.assign_once t.1;
        known = λ l m u j v k.
            let t = map_at label_of c.transitions m in
            let i = subst (λ (l : Label). Mem u l.body.updates) t.2 j in
            omega (arith, ranges.variables_few, updates_known _ _ t.0.label (ranges.of_transition t.0 t.1).label_known u i v k);
      }

pub take_up_of_charts : TakeUpOfCharts
take_up_of_charts file c a h divides only σ e = takes_up (chart_carries file c h) a divides only σ (chart_starts file c h σ e)

-- the machine of a network file
module _ (file : List ℕ) (n : Network) (h : network_of file ≡ done n) where
  network_step_lem : (σ : NetworkConfiguration) (ms : List ℕ) {τ : NetworkConfiguration} → network_call file σ (step ms) ≡ done τ → Accepted n σ ms τ
  unfolding network_call network.step_of answer.◌>>=◌
  network_step_lem σ ms e = accepted_at n σ ms (rw h at e)

  network_wait : (σ : NetworkConfiguration) (d : ℕ) {τ : NetworkConfiguration} → network_call file σ (wait d) ≡ done τ
      → τ.variables ≡ σ.variables
  unfolding network_call network.wait_of network.wait network.tested answer.◌>>=◌
  network_wait σ d e =
      let a = unless_at 26 _ _ (rw h at e) in
      let b = unless_at 22 _ _ a.1 in
      let u = unless_at 27 _ _ b.1 in
      sym (ap (λ (x : NetworkConfiguration). x.variables) (done_injective (unless_at 21 _ _ u.1).1))

  network_starts : (σ : NetworkConfiguration) → network.start_of file ≡ done σ → σ.variables ≡ replicate 16 (pos 0)
  unfolding network.start_of network.start answer.◌>>=◌
  network_starts σ e = sym (ap (λ (x : NetworkConfiguration). x.variables) (done_injective (rw h at e)))

  network_carries : Carries (map (λ e. e.label) n.edges) (λ m. (edge_at n m).label) (network_call file) (λ σ. σ.variables)
  unfolding network.after edge_at
  network_carries =
      let label_of : Edge → Label = λ e. e.label in
      let (ranges, assign_once) = network_labels file h in
      record {
        steps = λ σ ms e.
            sym (ap (λ (x : NetworkConfiguration). x.variables) (network_step_lem σ ms e).result)
            ∙ ap (λ (ls : List Label). variables_after ls σ.variables) (map-map label_of (edge_at n) ms);
        stay = λ σ ms e. (network_step_lem σ ms e).all_stay_lem;
        members = λ σ ms e m j. map_by label_of (get_d_mem n.edges m _ ((network_step_lem σ ms e).tests.are_known.each m j));
        waits = network_wait;
        once = λ l m. let t = map_at label_of n.edges m in ap assigns_once t.2 ∙ assign_once t.0 t.1;
        known = λ l m u j v k.
            let t = map_at label_of n.edges m in
            let i = subst (λ (l : Label). Mem u l.body.updates) t.2 j in
            omega (arith, ranges.variables_few, updates_known _ _ t.0.label (ranges.of_edge t.0 t.1) u i v k);
      }

pub take_up_of_networks : TakeUpOfNetworks
take_up_of_networks file n a h divides only σ e = takes_up (network_carries file n h) a divides only σ (network_starts file n h σ e)
