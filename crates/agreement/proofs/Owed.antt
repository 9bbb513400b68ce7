-- While moves are owed: no wait (`no_wait_owed`), so that 0 is the longest (`longest_owed`); every move pays one (`move_pays`),
-- and there is one (`some_move`).
use mathlib.Core.Path.{◌≡◌, refl, sym, ap, ◌∙◌, subst}
use mathlib.Core.Bool.{true}
use mathlib.Core.Logic.{⊎_elim}
use mathlib.Core.List.Memᴰ.{head as here}
use mathlib.Core.List.{List, [], ◌∷◌, Memᴰ as Mem}
use Prim.Native.Nat.{ℕ, ◌+◌, ◌<◌}
use native.Mathlib.Omega.{arith}
use borrow.Author.Tests.{eqb-true, eq-eqb}
use lib.Dec.{eqb}
use Rattle.reading.specs.Answer.{done}
use Rattle.clocks.specs.Clocks.{keeps}
use Rattle.lists.proofs.Bools.{clash, decided, cond_yes}
use Rattle.lists.proofs.Lists.{all_at, all_by, any_by}
use Rattle.reading.proofs.Answer.{unless_by}
use Rattle.clocks.proofs.Rows.{ClockValues}
use Rattle.chart_records.specs.Chart.{Chart, home}
use Rattle.chart_records.specs.Tree.{sequentials}
use Rattle.chart_moves.specs.Machine.{is_tree}
use Rattle.chart_records.proofs.Rules.{Passed}
use Rattle.chart_records.proofs.Ranges.{Ranges}
use Rattle.chart_moves.proofs.Step.{configuration_tree, configuration_clocks}
use Rattle.network_records.specs.Network.{urgent_at, edge_at}
use Rattle.network_moves.specs.Machine.{bounds_kept, is_configuration, urgent, step, wait, longest}
use Rattle.flattening.specs.Flatten.{Place, urgent_place, bounds_of, flatten}
use Rattle.flattening.proofs.Automata.{Region, sequentials_at, sequentials_by}
use Rattle.flattening.proofs.Numbers.{urgent_of_place}
use Rattle.flattening.proofs.Arrivals.{ends}
use Rattle.flattening.proofs.Edges.{Leaves, edge_at_mem, source_of}
use Rattle.agreement.specs.Agreement.{ChartConfiguration, NetworkConfiguration, Accepts, is_urgent, carried}
use Rattle.agreement.proofs.Relation.{standing, Pending, owes_all, Related}
use Rattle.agreement.proofs.Claims.{NoWaitOwed, LongestOwed, MovePays, SomeMove}
use Rattle.agreement.proofs.Standing.{Fits, urgent_standing, bounds_standing, configuration_standing, active_leaves}
use Rattle.agreement.proofs.Accepted.{Accepted, accepted_at, urgent_at_lem, wait_not_urgent}
use Rattle.agreement.proofs.Broadcast.{broadcast_leads, broadcast_accepted}
use Rattle.agreement.proofs.Pending.{placed_fits, home_urgent, urgent_home}
use Rattle.agreement.proofs.Paying.{Payment}
use Rattle.agreement.proofs.Leaving.{leave_pays}
use Rattle.agreement.proofs.Entering.{enter_pays}

module _ (c : Chart) (passed : Passed c) (ranges : Ranges c) (σ : ChartConfiguration) (ν : NetworkConfiguration) (owed : ℕ) (r : Related c σ ν owed) where
  abbrev f : ℕ → Place
  f = r.places

  abbrev now : NetworkConfiguration
  now = standing c f σ.variables σ.clocks

  tree : is_tree c σ ≡ true
  tree = configuration_tree c σ r.configured

  values : ClockValues σ.clocks
  values = configuration_clocks c σ r.configured

  fits : Fits c f
  fits = placed_fits c passed ranges σ tree f r.pending r.placed

  -- it is a configuration
  now_bounds : bounds_kept (flatten c) now ≡ true
  now_bounds = ap (bounds_kept (flatten c)) (sym r.network_is) ∙ r.bounds_kept_lem

  now_configured : is_configuration (flatten c) now ≡ true
  now_configured = configuration_standing c passed f fits σ r.configured ∙ now_bounds

  -- some transition is pending
  some_pending : 0 < owed → (p : Pending) × Mem p r.pending
  unfolding owes_all
  some_pending h = go r.pending r.owed_is
    where
      go : (ps : List Pending) → owed ≡ owes_all c ps → (p : Pending) × Mem p ps
      go [] e = absurd (omega arith)
      go (p ∷ ps) e = (p, here refl)

  -- so an urgent place is occupied
  urgent_now : 0 < owed → urgent (flatten c) now ≡ true
  urgent_now h =
      let p = some_pending h in
      let g = (ends c passed ranges p.0.transition (r.placed.each p.0 p.1).known).region in
      urgent_standing c passed f σ.variables σ.clocks fits
      ∙ any_by (λ q. eqb (urgent_place (f q)) 1) (sequentials_by c g) (eq-eqb _ 1 (home_urgent c passed ranges σ tree f r.pending r.placed p.0 p.1))

  -- each pending transition can pay
  payment : (p : Pending) → Mem p r.pending → Payment c σ f r.pending (home c p.transition)
  payment p m = ⊎_elim (leave_pays c passed ranges σ tree values f r.pending r.placed p m) (enter_pays c passed ranges σ tree values f r.pending r.placed p m) (decided p.leaving)

  -- what is related once it has
  module _ {h : ℕ} (y : Payment c σ f r.pending h) (rest : ℕ) (less : owed ≡ rest + 1) where
    abbrev then : NetworkConfiguration
    then = standing c y.places σ.variables σ.clocks

    then_fits : Fits c y.places
    then_fits = placed_fits c passed ranges σ tree y.places y.pending y.placed

    paid : bounds_kept (flatten c) then ≡ true → Related c σ then rest
    paid k = record {
      configured = r.configured;
      places = y.places;
      pending = y.pending;
      placed = y.placed;
      network_is = refl;
      bounds_kept_lem = k;
      owed_is = omega (arith, y.pays, r.owed_is);
    }

    then_bounds : bounds_kept (flatten c) now ≡ true → bounds_kept (flatten c) then ≡ true
    then_bounds k = bounds_standing c passed y.places σ.variables σ.clocks then_fits
        ∙ all_by (λ q. keeps (bounds_of c (y.places q)) σ.clocks) (sequentials c) (λ q m. y.bounds
        (λ s z. all_at (λ q. keeps (bounds_of c (f q)) σ.clocks) (sequentials c) (sym (bounds_standing c passed f σ.variables σ.clocks fits) ∙ k) (sequentials_by c z)) q (sequentials_at c m))

    -- a move with its sender makes it
    paid_by : (ms : List ℕ) {μ : NetworkConfiguration} → Accepted (flatten c) now ms μ → (m : ℕ) → Mem m ms → Leaves c (f h) (edge_at (flatten c) m)
        → (is_urgent (flatten c) ms ≡ true) × (carried (flatten c) ms ≡ []) × Related c σ μ rest
    paid_by ms a m k l =
        let b = broadcast_leads c passed ranges f y.places fits then_fits σ.variables σ.clocks h y.channel y.broadcast ms a m k l in
        (b.2, b.1, subst (λ (x : NetworkConfiguration). Related c σ x rest) (sym b.0) (paid (ap (bounds_kept (flatten c)) (sym b.0) ∙ a.bounds_kept_lem)))

    -- and there is one
    payable : (ms : List ℕ) × (step (flatten c) now ms ≡ done then)
    payable =
        broadcast_accepted c passed ranges f y.places fits then_fits σ.variables σ.clocks h y.channel y.broadcast now_configured
        (then_bounds now_bounds)

  -- a move has the sender of a pending transition
  module _ (ms : List ℕ) {μ : NetworkConfiguration} (some : 0 < owed) (a : Accepted (flatten c) now ms μ) where
    sender_from : (m : ℕ) → Mem m ms → urgent_at (flatten c) (edge_at (flatten c) m).source ≡ true → (q : ℕ) → Region c q → Leaves c (f q) (edge_at (flatten c) m)
        → (p : Pending) × Mem p r.pending × Leaves c (f (home c p.transition)) (edge_at (flatten c) m)
    unfolding urgent_at
    sender_from m k u q g l =
        let s : urgent_place (f q) ≡ 1 = eqb-true (urgent_place (f q)) 1 (ap (λ (n : ℕ). eqb n 1) (sym (urgent_of_place c (fits q g).is_place)) ∙ ap (urgent_at (flatten c)) (sym (source_of c (f q) _ l)) ∙ u) in
        let p = urgent_home c passed ranges σ tree f r.pending r.placed q g s in
        (p.0, p.1, subst (λ (x : ℕ). Leaves c (f x) (edge_at (flatten c) m)) p.2 l)

    sender_of : (m : ℕ) × Mem m ms × ((p : Pending) × Mem p r.pending × Leaves c (f (home c p.transition)) (edge_at (flatten c) m))
    sender_of =
        let u = urgent_at_lem (flatten c) ms (a.tests.urgent_first (urgent_now some)) in
        let l = active_leaves c passed f σ.variables σ.clocks fits (edge_at_mem (flatten c) u.0 (a.tests.are_known.each u.0 u.1)) (a.tests.each_active u.0 u.1) in
        (u.0, u.1, sender_from u.0 u.1 u.2 l.0 l.1 l.2)

  -- the claims
  waits_not : 0 < owed → (d : ℕ) → Accepts (wait (flatten c) ν d) → ⊥
  waits_not h d a = clash (ap (urgent (flatten c)) r.network_is ∙ urgent_now h) (wait_not_urgent (flatten c) ν d a)

  none_left : 0 < owed → longest (flatten c) ν ≡ done 0
  unfolding longest
  none_left h = ap (longest (flatten c)) r.network_is ∙ unless_by 26 _ now_configured ∙ ap done (cond_yes 0 _ (urgent_now h))

  pays : (rest : ℕ) → owed ≡ rest + 1 → (ms : List ℕ) (μ : NetworkConfiguration) → step (flatten c) ν ms ≡ done μ
      → (is_urgent (flatten c) ms ≡ true) × (carried (flatten c) ms ≡ []) × Related c σ μ rest
  pays rest less ms μ h =
      let a = accepted_at (flatten c) now ms (ap (λ (x : NetworkConfiguration). step (flatten c) x ms) (sym r.network_is) ∙ h) in
      let s = sender_of ms (omega arith) a in
      let p = s.2 in
      paid_by (payment p.0 p.1) rest less ms a s.0 s.1 p.2

  moves : (rest : ℕ) → owed ≡ rest + 1 → (ms : List ℕ) × Accepts (step (flatten c) ν ms)
  unfolding Accepts
  moves rest less =
      let p = some_pending (omega arith) in
      let b = payable (payment p.0 p.1) rest less in
      (b.0, (then (payment p.0 p.1) rest less, ap (λ (x : NetworkConfiguration). step (flatten c) x b.0) r.network_is ∙ b.1))

pub no_wait_owed : NoWaitOwed
no_wait_owed c passed ranges σ ν k r h d a = waits_not c passed ranges σ ν k r h d a

pub longest_owed : LongestOwed
longest_owed c passed ranges σ ν k r h = none_left c passed ranges σ ν k r h

pub move_pays : MovePays
move_pays c passed ranges σ ν k r ms μ h = pays c passed ranges σ ν (k + 1) r k refl ms μ h

pub some_move : SomeMove
some_move c passed ranges σ ν k r = moves c passed ranges σ ν (k + 1) r k refl
