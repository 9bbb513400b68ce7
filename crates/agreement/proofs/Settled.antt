-- With nothing owed: an allowed move and the step that it carries get the same answer (`answers_alike`), so a move of the
-- network carries a step that the chart accepts (`move_is_step`), a step of the chart is carried by a move (`step_is_move`), and
-- by one only (`one_move`); and where one is refused by 28 or 21, so is the other (`move_refused`, `step_refused`).
use mathlib.Core.Path.{◌≡◌, sym, ap, ap₂, ◌∙◌, subst, subst₂}
use mathlib.Core.Bool.{Bool, true}
use mathlib.Core.Logic.{⊎_elim, ◌≢◌}
use mathlib.Core.List.Memᴰ.{cast}
use mathlib.Core.List.{List, [], map, map-map, Memᴰ as Mem}
use Prim.Native.Nat.{ℕ}
use native.Mathlib.Omega.{arith}
use lib.ListN.{length}
use Rattle.lists.specs.Lists.{all, ascending}
use Rattle.reading.specs.Answer.{done, unless}
use Rattle.labels.specs.Label.{Label}
use Rattle.clocks.specs.Clocks.{keeps}
use Rattle.steps.specs.Moves.{all_stay, variables_after, clocks_after}
use Rattle.lists.proofs.Bools.{clash, same}
use Rattle.lists.proofs.Lists.{all_at, all_by, map_at, map_by}
use Rattle.lists.proofs.Ascending.{ascending_once, ascending_same}
use Rattle.labels.proofs.Labels.{receiver_assigns_nothing}
use Rattle.steps.proofs.Kept.{keeps_clocks_after}
use Rattle.steps.proofs.Last.{done_late, refused_late}
use Rattle.steps.proofs.Sets.{Matched, matched_length, allowed_set_at, allowed_set_by, OneAssigns, one_assigns, variables_alike, stay_alike, clocks_alike}
use Rattle.chart_records.specs.Chart.{Chart, Transition, transition_at, home}
use Rattle.chart_records.specs.Tree.{sequentials}
use Rattle.chart_moves.specs.Machine as chart
use Rattle.chart_records.proofs.Rules.{Passed}
use Rattle.chart_records.proofs.Ranges.{Ranges}
use Rattle.chart_moves.proofs.After.{after_clocks}
use Rattle.chart_moves.proofs.Step.{Together, AllowedStep, allowed_step_at, allowed_step_by, allowed_together, step_at}
use Rattle.chart_moves.proofs.Step.{active_source, configuration_tree, configuration_clocks, configuration_bounds}
use Rattle.chart_rules.proofs.TransitionRules.{transition_mem}
use Rattle.chart_moves.proofs.Moved.{next_configured}
use Rattle.network_records.specs.Network.{Edge, edge_at, owner_of}
use Rattle.network_moves.specs.Machine as network
use Rattle.flattening.specs.Flatten.{Place, edge, automaton, departure, bounds_of, flatten}
use Rattle.flattening.specs.Picture.{pictured, picture}
use Rattle.flattening.proofs.Automata.{Region, sequentials_by}
use Rattle.flattening.proofs.Arrivals.{ends}
use Rattle.flattening.proofs.Bounds.{bounds_pictured, bounds_after}
use Rattle.flattening.proofs.Pictured.{pictured_child, pictured_fits}
use Rattle.agreement.specs.Agreement.{ChartConfiguration, NetworkConfiguration, Accepts, Alike, carried, named}
use Rattle.agreement.proofs.Relation.{standing, Related}
use Rattle.agreement.proofs.Claims.{MoveIsStep, StepIsMove, OneMove, MoveRefused, StepRefused}
use Rattle.agreement.proofs.Standing.{picture_stands, bounds_standing, Takes, takes_by, after_standing}
use Rattle.agreement.proofs.Accepted.{alike_accepts, alike_refused, alike_back, alike_by, AllowedMove, allowed_move_at, allowed_move_by, accepted_at}
use Rattle.agreement.proofs.Bearing.{tested_by, exit_by, carrier}
use Rattle.agreement.proofs.Picture.{picture_configuration, picture_not_urgent}
use Rattle.agreement.proofs.Carrying.{Carries, carries_label, carries_owner, carries_active, carries_one, move_carries, carried_ascends, carried_matches, carried_allowed, carriers, carriers_ascend, carried_carriers, carriers_match}
use Rattle.agreement.proofs.Departing.{after_step, departed, departing, departing_owes, departed_at, departed_other, departed_fits, departed_placed, home_cases}

module _ (c : Chart) (passed : Passed c) (ranges : Ranges c) (σ : ChartConfiguration) (given : chart.is_configuration c σ ≡ true) where
  tree : chart.is_tree c σ ≡ true
  tree = configuration_tree c σ given

  -- edges ms that carry the transitions ts, which can be taken together
  module _ (ms ts : List ℕ) (matched : Matched (Carries c σ) ms ts) (together : Together c σ ts) where
    edges_take : (e : Edge) → Mem e (map (edge_at (flatten c)) ms) → Takes c (pictured c σ) (departed c σ ts) e
    unfolding carrier
    edges_take e m =
        let r = map_at (edge_at (flatten c)) ms m in
        let w = matched.right r.0 r.1 in
        takes w.0 w.1 w.2.is_active_lem (r.2 ∙ w.2.edge_is)
      where
        takes : (t : ℕ) → Mem t ts → chart.active_transition c σ (transition_at c t) ≡ true → e ≡ carrier c σ t → Takes c (pictured c σ) (departed c σ ts) e
        takes t n a h =
            let k = ends c passed ranges t (together.each_known t n) in
            takes_by c (pictured c σ) (departed c σ ts) (pictured_fits c σ tree) (home c t) k.region t (exit_by c σ t) (tested_by c σ t) (transition_at c t).label
            (h ∙ sym (ap₂ (λ (p g : Place). edge c p g t (exit_by c σ t) (tested_by c σ t) (transition_at c t).label) (pictured_child c σ tree k.region k.from (active_source c σ (transition_at c t) a)) (departed_at c passed ranges σ tree ts together t n)))

    others_stay : (q : ℕ) → Region c q → ((e : Edge) → Mem e (map (edge_at (flatten c)) ms) → owner_of (flatten c) e ≢ automaton c q) → departed c σ ts q ≡ pictured c σ q
    others_stay q g f = departed_other c σ ts q (λ t n e. let w = matched.left t n in f _ (map_by (edge_at (flatten c)) w.1) (carries_owner c passed ranges σ tree w.0 t w.2 ∙ ap (automaton c) e))

    -- the move leads where the transitions have departed
    moved_standing : OneAssigns (λ m. (edge_at (flatten c) m).label) ms → network.after (flatten c) (map (edge_at (flatten c)) ms) (picture c σ) ≡ standing c (departed c σ ts) (after_step c σ ts).variables (after_step c σ ts).clocks
    moved_standing a =
        ap (network.after (flatten c) (map (edge_at (flatten c)) ms)) (picture_stands c σ)
        ∙ after_standing c passed (pictured c σ) (departed c σ ts) (departed_fits c passed ranges σ tree ts together) (map (edge_at (flatten c)) ms) edges_take others_stay σ.variables σ.clocks
        ∙ ap₂ (standing c (departed c σ ts)) variables clocks
      where
        edge-labels : map (λ (e : Edge). e.label) (map (edge_at (flatten c)) ms) ≡ map (λ m. (edge_at (flatten c) m).label) ms
        edge-labels = map-map (λ (e : Edge). e.label) (edge_at (flatten c)) ms

        labels : map (λ (t : Transition). t.label) (map (transition_at c) ts) ≡ map (λ t. (transition_at c t).label) ts
        labels = map-map (λ (t : Transition). t.label) (transition_at c) ts

        variables : variables_after (map (λ (e : Edge). e.label) (map (edge_at (flatten c)) ms)) σ.variables ≡ (after_step c σ ts).variables
        variables = unfold chart.after in
            ap (λ (ls : List Label). variables_after ls σ.variables) edge-labels
            ∙ variables_alike (Carries c σ) _ _ (carries_label c σ) ms ts matched σ.variables a
            ∙ ap (λ (ls : List Label). variables_after ls σ.variables) (sym labels)

        clocks : clocks_after (map (λ (e : Edge). e.label) (map (edge_at (flatten c)) ms)) σ.clocks ≡ (after_step c σ ts).clocks
        clocks = ap (λ (ls : List Label). clocks_after ls σ.clocks) edge-labels ∙ clocks_alike (Carries c σ) _ _ (carries_label c σ) ms ts matched σ.clocks ∙ sym (after_clocks c σ ts)

    -- and keeps the bounds, just if the chart does
    bounds_alike : network.bounds_kept (flatten c) (standing c (departed c σ ts) (after_step c σ ts).variables (after_step c σ ts).clocks) ≡ chart.bounds_kept c (after_step c σ ts)
    bounds_alike =
        bounds_standing c passed (departed c σ ts) (after_step c σ ts).variables (after_step c σ ts).clocks (departed_fits c passed ranges σ tree ts together)
        ∙ same _ _ (λ h. all_by _ ts (λ t m.
        ap (λ (p : Place). keeps (bounds_of c p) (after_step c σ ts).clocks) (sym (departed_at c passed ranges σ tree ts together t m)) ∙ all_at _ (sequentials c) h (sequentials_by c (ends c passed ranges t (together.each_known t m)).region)))
        (λ h. all_by _ (sequentials c) (λ q m. ⊎_elim
        (λ k. ap (λ (x : ℕ). keeps (bounds_of c (departed c σ ts x)) (after_step c σ ts).clocks) (sym k.2) ∙ ap (λ (p : Place). keeps (bounds_of c p) (after_step c σ ts).clocks) (departed_at c passed ranges σ tree ts together k.0 k.1) ∙ all_at _ ts h k.1)
        (λ f. ap (λ (p : Place). keeps (bounds_of c p) (after_step c σ ts).clocks) (departed_other c σ ts q f) ∙ still q m)
        (home_cases c ts q)))
        ∙ ap (λ (cs : List ℕ). all (λ t. keeps (bounds_of c (departure c t)) cs) ts) (after_clocks c σ ts)
        ∙ sym (bounds_after c passed ranges σ ts tree (configuration_clocks c σ given) together (configuration_bounds c σ given))
      where
        still : (q : ℕ) → Mem q (sequentials c) → keeps (bounds_of c (pictured c σ q)) (after_step c σ ts).clocks ≡ true
        still q m =
            ap (keeps (bounds_of c (pictured c σ q))) (after_clocks c σ ts)
            ∙ keeps_clocks_after _ (bounds_of c (pictured c σ q)) σ.clocks (all_at _ (sequentials c) (sym (bounds_pictured c passed ranges σ tree (configuration_clocks c σ given)) ∙ configuration_bounds c σ given) m)

  -- a receiver among edges that carry transitions assigns nothing
  carriers_silent : (ms : List ℕ) → ((m : ℕ) → Mem m ms → (t : ℕ) × Carries c σ m t) → (m : ℕ) → Mem m ms → (edge_at (flatten c) m).label.signal ≡ 2 → (edge_at (flatten c) m).label.body.updates ≡ []
  carriers_silent ms f m k e =
      let r = f m k in
      let l = carries_label c σ m r.0 r.1 in
      ap (λ (x : Label). x.body.updates) l ∙ receiver_assigns_nothing _ (all_at _ _ passed.assign_once (transition_mem c r.0 r.1.known)) (ap (λ (x : Label). x.signal) (sym l) ∙ e)

  -- an allowed move and an allowed step that correspond
  module _ (ms ts : List ℕ) (matched : Matched (Carries c σ) ms ts) (move : AllowedMove (flatten c) (picture c σ) ms) (step : AllowedStep c σ ts) where
    together : Together c σ ts
    together = allowed_together c passed ranges σ ts step

    leads : network.after (flatten c) (map (edge_at (flatten c)) ms) (picture c σ) ≡ standing c (departed c σ ts) (after_step c σ ts).variables (after_step c σ ts).clocks
    leads = moved_standing ms ts matched together (one_assigns move.is_allowed_lem (carriers_silent ms (λ m k. let r = matched.right m k in (r.0, r.2))))

    -- they make the same two tests: 28 and 21
    stays : all_stay (map (λ m. (edge_at (flatten c) m).label) ms) (picture c σ).variables ≡ all_stay (map (λ t. (transition_at c t).label) ts) σ.variables
    unfolding picture
    stays = stay_alike (Carries c σ) _ _ (carries_label c σ) ms ts matched σ.variables

    answers_alike : Alike (network.step (flatten c) (picture c σ) ms) (chart.step c σ ts)
    unfolding network.tested chart.tested
    answers_alike = subst₂ Alike
        (sym (allowed_move_by (flatten c) (picture c σ) ms move
        ∙ ap₂ (λ (a b : Bool). unless 28 a (unless 21 b (done (network.after (flatten c) (map (edge_at (flatten c)) ms) (picture c σ)))))
        stays (ap (network.bounds_kept (flatten c)) leads ∙ bounds_alike ms ts matched together)))
        (sym (allowed_step_by c σ ts step)) (alike_by 28 21 _ _ _ _)

  -- an allowed move and the transitions that it carries
  module _ (ms : List ℕ) (move : AllowedMove (flatten c) (picture c σ) ms) where
    abbrev steps : List ℕ
    steps = carried (flatten c) ms

    each_carries : (m : ℕ) → Mem m ms → (t : ℕ) × Carries c σ m t
    each_carries = move_carries c passed ranges σ tree ms move.are_known.each move.each_active move.is_allowed_lem

    move_matches : Matched (Carries c σ) ms steps
    move_matches = carried_matches c passed ranges σ tree ms move.are_known.ascends each_carries

    same_length : length ms ≡ length steps
    same_length = matched_length (Carries c σ) ms steps move_matches

    steps_allowed : AllowedStep c σ steps
    steps_allowed = record {
      given = given;
      are_known =
          record {
            some = omega (arith, move.are_known.some, same_length);
            few = omega (arith, move.are_known.few, same_length);
            ascends = carried_ascends c ms;
            each = λ t n. (move_matches.left t n).2.known;
          };
      each_active = λ t n. (move_matches.left t n).2.is_active_lem;
      is_allowed_lem = sym (carried_allowed c passed ranges σ tree ms steps move_matches) ∙ allowed_set_by _ _ _ _ _ ms move.is_allowed_lem;
    }

    move_alike : Alike (network.step (flatten c) (picture c σ) ms) (chart.step c σ steps)
    move_alike = answers_alike ms steps move_matches move steps_allowed

    steps_some : steps ≡ [] → ⊥
    steps_some e = omega (arith, move.are_known.some, same_length, ap (λ (l : List ℕ). length l) e)

    -- an accepted one
    module _ (ν : NetworkConfiguration) (h : network.step (flatten c) (picture c σ) ms ≡ done ν) where
      steps_accepted : chart.step c σ steps ≡ done (after_step c σ steps)
      unfolding Accepts
      steps_accepted =
          let r = alike_accepts _ _ move_alike (ν, h) in
          r.1 ∙ ap done (sym (step_at c σ steps r.1).result)

      steps_related : Related c (after_step c σ steps) ν (named c steps)
      steps_related =
          let go = together ms steps move_matches move steps_allowed in
          let accepted = accepted_at (flatten c) (picture c σ) ms h in
          record {
            configured = next_configured c passed ranges σ tree steps go given (step_at c σ steps steps_accepted).bounds_kept_lem;
            places = departed c σ steps;
            pending = departing c steps;
            placed = departed_placed c passed ranges σ tree steps go steps_allowed.each_active (ascending_once steps (carried_ascends c ms));
            network_is = sym accepted.result ∙ leads ms steps move_matches move steps_allowed;
            bounds_kept_lem = accepted.bounds_kept_lem;
            owed_is = departing_owes c steps;
          }

  -- the transitions of an allowed step and the edges that carry them
  module _ (ts : List ℕ) (step : AllowedStep c σ ts) where
    moves : List ℕ
    moves = carriers c passed ranges σ tree ts

    step_matches : Matched (Carries c σ) moves ts
    unfolding moves
    step_matches = carriers_match c passed ranges σ tree ts step.are_known.ascends step.are_known.each step.each_active

    moves_carry : carried (flatten c) moves ≡ ts
    unfolding moves
    moves_carry = carried_carriers c passed ranges σ tree ts step.are_known.ascends step.are_known.each step.each_active

    moves_ascend : ascending moves ≡ true
    unfolding moves
    moves_ascend = carriers_ascend c passed ranges σ tree ts step.are_known.ascends step.are_known.each step.each_active

    moves_length : length moves ≡ length ts
    moves_length = matched_length (Carries c σ) moves ts step_matches

    moves_allowed : AllowedMove (flatten c) (picture c σ) moves
    moves_allowed = record {
      given = picture_configuration c passed ranges σ given;
      are_known =
          record {
            some = omega (arith, step.are_known.some, moves_length);
            few = omega (arith, step.are_known.few, moves_length);
            ascends = moves_ascend;
            each = λ m k. (step_matches.right m k).2.edge_known;
          };
      each_active = λ m k. let r = step_matches.right m k in carries_active c passed ranges σ tree m r.0 r.2;
      urgent_first = λ u. clash u (picture_not_urgent c passed ranges σ tree);
      is_allowed_lem = allowed_set_at _ _ _ _ _ moves (carried_allowed c passed ranges σ tree moves ts step_matches ∙ step.is_allowed_lem);
    }

    step_alike : Alike (chart.step c σ ts) (network.step (flatten c) (picture c σ) moves)
    step_alike = alike_back _ _ (answers_alike moves ts step_matches moves_allowed step)

  -- two moves that carry the same transitions have the same edges
  edges_within : (ms ns : List ℕ) → AllowedMove (flatten c) (picture c σ) ms → AllowedMove (flatten c) (picture c σ) ns
      → carried (flatten c) ms ≡ carried (flatten c) ns → (m : ℕ) → Mem m ms → Mem m ns
  edges_within ms ns a b e m k =
      let r = (move_matches ms a).right m k in
      let l = (move_matches ns b).left r.0 (subst (Mem r.0) e r.1) in
      cast (carries_one c passed ranges σ tree m l.0 r.0 r.2 l.2) l.1

pub move_is_step : MoveIsStep
move_is_step c passed ranges σ given ms ν h =
    let move = allowed_move_at (flatten c) (picture c σ) ms done_late h in (
      after_step c σ (carried (flatten c) ms),
      steps_accepted c passed ranges σ given ms move ν h,
      steps_some c passed ranges σ given ms move,
      steps_related c passed ranges σ given ms move ν h,
    )

pub step_is_move : StepIsMove
unfolding Accepts
step_is_move c passed ranges σ given ts (τ, h) =
    let step = allowed_step_at c σ ts done_late h in
    (moves c passed ranges σ given ts step, alike_accepts _ _ (step_alike c passed ranges σ given ts step) (τ, h), moves_carry c passed ranges σ given ts step)

pub one_move : OneMove
unfolding Accepts
one_move c passed ranges σ given ms ns (μ, h) (ν, k) e =
    let a = allowed_move_at (flatten c) (picture c σ) ms done_late h in
    let b = allowed_move_at (flatten c) (picture c σ) ns done_late k in
    ascending_same ms ns a.are_known.ascends b.are_known.ascends
    (edges_within c passed ranges σ given ms ns a b e) (edges_within c passed ranges σ given ns ms b a (sym e))

-- a refusal by 28 or 21 is one of both machines
pub move_refused : MoveRefused
move_refused c passed ranges σ given ms k late h =
    alike_refused _ _ (move_alike c passed ranges σ given ms (allowed_move_at (flatten c) (picture c σ) ms (refused_late late) h)) h

pub step_refused : StepRefused
step_refused c passed ranges σ given ts k late h =
    let step = allowed_step_at c σ ts (refused_late late) h in
    (moves c passed ranges σ given ts step, alike_refused _ _ (step_alike c passed ranges σ given ts step) h, moves_carry c passed ranges σ given ts step)
