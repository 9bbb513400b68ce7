-- One call more of a run, in the code and in the definition.
use Rattle.std.proofs.Common.{◌≡◌, ℕ, ◌+◌, ◌-◌, ◌%◌, ◌^◌, ◌<◌, ◌≤◌, true, List, [], ◌∷◌, ◌++◌, length, take, sym, refl, ap, ◌∙◌, subst, ap₂, subst₂, append-nil, mod-eq_of_lt, arith, length-take-le}
use native.Mathlib.Decide.{ℕ_discrete}
use Rattle.reading.specs.Answer.{Answer, done, refused}
use Rattle.steps.specs.Moves.{known}
use Rattle.reading.proofs.Answer.{unless_at, done_injective}
use Rattle.chart_records.specs.Chart.{Chart}
use Rattle.chart_records.specs.Rules.{chart_of}
use Rattle.chart_moves.specs.Machine as chart
use Rattle.chart_machine.proofs.Waits.{step_passed}
use Rattle.network_records.specs.Network.{Network}
use Rattle.network_moves.specs.Machine as network
use Rattle.reading.specs.Verdict.{verdict_of}
use Rattle.agreement.specs.Agreement.{ChartConfiguration, NetworkConfiguration, Call, step, wait, on_network, left, carried, named, Run, moved, run_from, run, Accepts, Agrees, Holds}
use Rattle.agreement.proofs.Runs.{extended_moving, extended_waiting, extended_step_refused, extended_wait_refused, run_more}
use Rattle.agreement.proofs.Accepted.{alike_accepts, accepted_at}
use Rattle.agreement.proofs.Demand.{demand3}
use Rattle.paired_run.specs.Paired.{list_of, Flattening, Stands, Follows, FollowsCall, Safe, passed, followed_by}
use Rattle.paired_run.specs.declared.carry.Transitions.{Transitions}
use Rattle.paired_run.specs.declared.run.Run as code
use Rattle.paired_run.specs.declared.run.Reading.TheVariants as Rd
use Rattle.paired_run.specs.declared.run.Followed.{Followed}
use Rattle.paired_run.proofs.Owing.{named_few}

-- a step that the chart accepts has known numbers
accepted_known : (c : Chart) (σ : ChartConfiguration) (ts : List ℕ) → Accepts (chart.step c σ ts) → known (length c.transitions) ts ≡ true
unfolding Accepts chart.step
accepted_known c σ ts a = (unless_at 18 _ _ (unless_at 17 _ _ a.1).1).0

-- after a move
module _ (c : Chart) (r : Run) (σ : NetworkConfiguration) where
  moved_some : {τ : ChartConfiguration} (ts : List ℕ) → (ts ≡ [] → ⊥) → chart.step c r.chart ts ≡ done τ → moved c σ r ts ≡ record { network = σ; chart = τ; reading = r.reading ++ (step ts ∷ []); owed = r.owed + named c ts }
  unfolding moved left
  moved_some [] d e = absurd (d refl)
  moved_some (t ∷ ts) d e = ap (λ (a : Answer ChartConfiguration). record { network = σ; chart = left r.chart a; reading = r.reading ++ (step (t ∷ ts) ∷ []); owed = r.owed + named c (t ∷ ts) }) e

  moved_none : moved c σ r [] ≡ record { network = σ; chart = r.chart; reading = r.reading; owed = r.owed - 1 }
  unfolding moved
  moved_none = refl

  module _ {x : code.Run} (S : Stands x r) (carry : Transitions) where
    pub follows_none : {owed : ℕ} {f : Followed} → carry.count ≡ 0 → owed ≡ x.owed - 1
        → f ≡ followed_by Rd.Nothing carry (record { network = σ; chart = x.chart; owed = owed })
        → Follows r (moved c σ r (list_of carry)) passed f
    follows_none e o h = rw (h, e) (rw moved_none (record {
      stands = record { network = refl; chart = S.chart; owed = o ∙ ap (λ (k : ℕ). k - 1) S.owed };
      reads = sym (append-nil r.reading);
      accepted = refl;
      verdict = refl;
    }))

    -- the sum does not wrap, since nothing was owed
    pub follows_some : (file : List ℕ) {a : Answer ChartConfiguration} {k owed : ℕ} {f : Followed} → chart_of file ≡ done c → length carry.list ≡ 16 → carry.count ≤ 16 → (carry.count ≡ 0 → ⊥) → Safe c r (list_of carry)
        → a ≡ chart.step_of file x.chart (list_of carry)
        → (known (length c.transitions) (list_of carry) ≡ true → k ≡ named c (list_of carry)) → owed ≡ (x.owed + k) % 2 ^ 64
        → ((τ : ChartConfiguration) → a ≡ done τ → f ≡ followed_by Rd.Step carry (record { network = σ; chart = τ; owed = owed }))
        → Follows r (moved c σ r (list_of carry)) passed f
    unfolding Accepts
    follows_some file {a} {k} {owed} h long few more safe answer names sum follows =
        let ts = list_of carry in
        let size : length ts ≡ carry.count = length-take-le carry.count carry.list (omega arith) in
        let some : ts ≡ [] → ⊥ = λ e. more (sym size ∙ ap length e) in
        let s = safe some in
        let e : chart.step_of file x.chart ts ≡ done s.1.0 = step_passed file x.chart ts h ∙ ap (λ (ρ : ChartConfiguration). chart.step c ρ ts) S.chart ∙ s.1.1 in
        let n : k ≡ named c ts = names (accepted_known c r.chart ts s.1) in
        let none : x.owed ≡ 0 = S.owed ∙ s.0 in
        let small : x.owed + k < 2 ^ 64 = omega (arith, named_few c ts) in
        let owes : owed ≡ r.owed + named c ts = sum ∙ mod-eq_of_lt small ∙ ap₂ ◌+◌ S.owed n in
        rw (moved_some ts some s.1.1, follows s.1.0 (answer ∙ e)) (record {
          stands = record { network = refl; chart = refl; owed = owes };
          reads = refl;
          accepted = refl;
          verdict = refl;
        })

-- a chart and the network that flattening writes of it
module _ {file bytes : List ℕ} {c : Chart} {n : Network} (F : Flattening file bytes c n) where
  both : Holds file bytes c n × ((calls : List Call) → Agrees c n calls)
  both =
      let d = demand3 file bytes F.room c F.chart_is F.bytes_are in
      subst (λ (m : Network). Holds file bytes c m × ((calls : List Call) → Agrees c m calls)) (done_injective (sym d.1.network_is ∙ F.network_is)) (d.1, d.2)

  pub starts : {m : Answer NetworkConfiguration} {o : Answer ChartConfiguration} → m ≡ network.start_of bytes → o ≡ chart.start_of file
      → (σ : NetworkConfiguration) × (τ : ChartConfiguration) × (m ≡ done σ) × (o ≡ done τ) × Stands (record { network = σ; chart = τ; owed = 0 }) (run c n [])
  unfolding run run_from
  starts h k = (_, _, h ∙ both.0.network_starts, k ∙ both.0.chart_starts, record { network = refl; chart = refl; owed = refl })

  module _ (calls : List Call) where
    agree : Agrees c n calls
    agree = both.1 calls

    abbrev now : Run
    now = run c n calls

    -- to a call that is refused, or that goes on by an extended run
    by_call : (x : Call) {f : Followed} {v : Answer (Unit {0})} {s : Run} → run c n (calls ++ (x ∷ [])) ≡ s → v ≡ verdict_of (on_network n now.network x) → Follows now s v f → FollowsCall c n calls x f
    by_call x {f} e q w = subst₂ (λ (s : Run) (v : Answer (Unit {0})). Follows now s v f) (sym e) q w

    module _ {x : code.Run} (S : Stands x now) where
      module _ (ms : List ℕ) where
        -- what the code's machine answers is what the definition's does
        stepped : {a : Answer NetworkConfiguration} → a ≡ network.step_of bytes x.network ms → a ≡ network.step n now.network ms
        stepped h = h ∙ both.0.network_steps x.network ms ∙ ap (λ (ν : NetworkConfiguration). network.step n ν ms) S.network

        pub step_refused : {f : Followed} {k : ℕ} → refused k ≡ network.step_of bytes x.network ms → Follows now now (refused k) f → FollowsCall c n calls (step ms) f
        unfolding on_network
        step_refused h w = by_call (step ms) (run_more c n calls (step ms) ∙ extended_step_refused c n now ms (sym (stepped h))) (ap verdict_of (stepped h)) w

        module _ {σ : NetworkConfiguration} (h : done σ ≡ network.step_of bytes x.network ms) where
          step_done : network.step n now.network ms ≡ done σ
          step_done = sym (stepped h)

          pub step_few : length ms ≤ 16
          step_few = (accepted_at n now.network ms step_done).tests.are_known.few

          pub step_safe : {ts : List ℕ} → ts ≡ carried n ms → Safe c now ts
          unfolding Accepts
          step_safe q = subst (Safe c now) (sym q) (λ some. elim (ℕ_discrete now.owed 0) [
            | yes z ↦ (z, (agree.settled z).move_steps ms (_, step_done))
            | no z ↦ absurd (some ((agree.owing (omega arith)).only_urgent ms (_, step_done)).1)
          ])

          pub step_moved : {f : Followed} {ts : List ℕ} → ts ≡ carried n ms → Follows now (moved c σ now ts) passed f → FollowsCall c n calls (step ms) f
          unfolding on_network
          step_moved q w = by_call (step ms) (run_more c n calls (step ms) ∙ extended_moving c n now ms step_done ∙ ap (moved c σ now) (sym q)) (ap verdict_of (stepped h)) w

      module _ (d : ℕ) where
        waited : {a : Answer NetworkConfiguration} → a ≡ network.wait_of bytes x.network d → a ≡ network.wait n now.network d
        waited h = h ∙ both.0.network_waits x.network d ∙ ap (λ (ν : NetworkConfiguration). network.wait n ν d) S.network

        pub wait_refused : {f : Followed} {k : ℕ} → refused k ≡ network.wait_of bytes x.network d → Follows now now (refused k) f → FollowsCall c n calls (wait d) f
        unfolding on_network
        wait_refused h w = by_call (wait d) (run_more c n calls (wait d) ∙ extended_wait_refused c n now d (sym (waited h))) (ap verdict_of (waited h)) w

        module _ {σ : NetworkConfiguration} (h : done σ ≡ network.wait_of bytes x.network d) where
          wait_done : network.wait n now.network d ≡ done σ
          wait_done = sym (waited h)

          -- nothing is owed where the network waits, so the chart waits too
          chart_waits : Accepts (chart.wait c now.chart d)
          unfolding Accepts
          chart_waits = elim (ℕ_discrete now.owed 0) [
            | yes z ↦ alike_accepts _ _ ((agree.settled z).waits d) (_, wait_done)
            | no z ↦ absurd ((agree.owing (omega arith)).no_wait d (_, wait_done))
          ]

          pub wait_follows : {a : Answer ChartConfiguration} {none : Transitions} {f : Followed} → a ≡ chart.wait_of file x.chart d
              → ((τ : ChartConfiguration) → a ≡ done τ → f ≡ followed_by (Rd.Wait d) none (record { network = σ; chart = τ; owed = x.owed }))
              → FollowsCall c n calls (wait d) f
          unfolding on_network Accepts
          wait_follows k follows =
              let a = chart_waits in
              let g : chart.wait_of file x.chart d ≡ done a.0 = both.0.chart_waits x.chart d ∙ ap (λ (ρ : ChartConfiguration). chart.wait c ρ d) S.chart ∙ a.1 in
              by_call (wait d) (run_more c n calls (wait d) ∙ extended_waiting c n now d wait_done a.1) (ap verdict_of (waited h)) (rw (follows a.0 (k ∙ g)) (record {
                stands = record { network = refl; chart = refl; owed = S.owed };
                reads = refl;
                accepted = refl;
                verdict = refl;
              }))
