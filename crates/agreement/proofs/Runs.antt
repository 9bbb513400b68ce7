-- Demand 3 from the claims, by induction over the list of calls (`demand3_by`). What holds after
-- every call is `Invariant`; that a chart list is read from a network list is `Reaches`.
use mathlib.Core.Path.{◌≡◌, refl, sym, ap, ◌∙◌, subst, subst₂}
use mathlib.Core.Bool.{true, false}
use mathlib.Core.List.{List, [], ◌∷◌, ◌++◌, append_assoc, append-nil}
use Prim.Native.Nat.{ℕ, zero, suc, ◌+◌, ◌-◌, ◌<◌}
use native.Mathlib.Omega.{arith}
use native.Mathlib.Decide.{ℕ_discrete}
use Rattle.reading.specs.Answer.{Answer, done, refused, ◌>>=◌}
use Rattle.lists.proofs.Bools.{clash}
use Rattle.reading.proofs.Answer.{done_injective}
use Rattle.chart_records.specs.Chart.{Chart}
use Rattle.chart_records.specs.Rules.{chart_of}
use Rattle.chart_moves.specs.Machine as chart
use Rattle.chart_records.proofs.Rules.{Passed}
use Rattle.chart_records.proofs.Ranges.{Ranges, chart_at_lem}
use Rattle.network_records.specs.Network.{Network, network_of}
use Rattle.network_moves.specs.Machine as network
use Rattle.flattening.specs.Flatten.{flatten}
use Rattle.flattening.specs.Picture.{picture}
use Rattle.flattening.proofs.Printable.{flattened_at}
use Rattle.agreement.specs.Agreement.{ChartConfiguration, NetworkConfiguration, Call, step, wait, on_chart, left, carried, is_urgent, named, Run, moved, extended, run_from, run, accepts_all, chart_after, accepted, Accepts, Alike, Owing, Settled, Agrees, Holds, IsRead, Demand3}
use Rattle.agreement.proofs.Relation.{Related, standing}
use Rattle.agreement.proofs.Claims.{AllClaims}
use Rattle.agreement.proofs.Accepted.{alike_accepts}

-- a list that is accepted: its first call, and the rest
accepts_first : (c : Chart) (σ : ChartConfiguration) (x : Call) (xs : List Call) → accepts_all c σ (x ∷ xs) ≡ true → (τ : ChartConfiguration) × (on_chart c σ x ≡ done τ) × (accepts_all c τ xs ≡ true)
unfolding accepts_all
accepts_first c σ x xs h = go (on_chart c σ x) refl h
  where
    go : (a : Answer ChartConfiguration) → on_chart c σ x ≡ a → (elim a [ done τ ↦ accepts_all c τ xs | refused k ↦ false ]) ≡ true → (τ : ChartConfiguration) × (on_chart c σ x ≡ done τ) × (accepts_all c τ xs ≡ true)
    go (done τ) e k = (τ, e, k)
    go (refused n) e k = clash k refl

-- a call that is accepted, after a list that is
accepts_more : (c : Chart) (σ : ChartConfiguration) (xs : List Call) (x : Call) {τ : ChartConfiguration} → accepts_all c σ xs ≡ true → on_chart c (chart_after c σ xs) x ≡ done τ
    → (accepts_all c σ (xs ++ (x ∷ [])) ≡ true) × (chart_after c σ (xs ++ (x ∷ [])) ≡ τ)
unfolding accepts_all chart_after left
accepts_more c σ [] x h e = (rw (e, accepts_all), rw e)
accepts_more c σ (y ∷ ys) x h e =
    let f = accepts_first c σ y ys h in
    let r = accepts_more c f.0 ys x f.2 (rw f.1 at e) in
    (rw (f.1, accepts_all) r.0, rw (f.1, chart_after) r.1)

-- a run goes on: a chart call is added; or nothing is, and one move less is owed
abbrev adding : Run → NetworkConfiguration → ChartConfiguration → Call → ℕ → Run
adding r ν τ x owed = record { network = ν; chart = τ; reading = r.reading ++ (x ∷ []); owed = owed }

abbrev paying : Run → NetworkConfiguration → Run
paying r ν = record { network = ν; chart = r.chart; reading = r.reading; owed = r.owed - 1 }

module _ (c : Chart) (n : Network) (r : Run) where
  -- by a move
  pub extended_moving : {ν : NetworkConfiguration} (ms : List ℕ) → network.step n r.network ms ≡ done ν → extended c n r (step ms) ≡ moved c ν r (carried n ms)
  unfolding extended moved
  extended_moving ms h = rw (h, extended)

  -- by one that carries transitions, which the chart accepts
  extended_adding : {ν : NetworkConfiguration} {τ : ChartConfiguration} (ms : List ℕ) → network.step n r.network ms ≡ done ν → (carried n ms ≡ [] → ⊥) → chart.step c r.chart (carried n ms) ≡ done τ
      → extended c n r (step ms) ≡ adding r ν τ (step (carried n ms)) (r.owed + named c (carried n ms))
  unfolding extended moved left
  extended_adding {ν} {τ} ms h some e = rw (h, extended) (go (carried n ms) some e)
    where
      go : (ts : List ℕ) → (ts ≡ [] → ⊥) → chart.step c r.chart ts ≡ done τ → moved c ν r ts ≡ adding r ν τ (step ts) (r.owed + named c ts)
      go [] k d = absurd (k refl)
      go (t ∷ ts) k d = ap (λ (a : Answer ChartConfiguration). adding r ν (left r.chart a) (step (t ∷ ts)) (r.owed + named c (t ∷ ts))) d

  -- by one that carries none
  extended_paying : {ν : NetworkConfiguration} (ms : List ℕ) → network.step n r.network ms ≡ done ν → carried n ms ≡ [] → extended c n r (step ms) ≡ paying r ν
  unfolding extended moved
  extended_paying {ν} ms h e = rw (h, extended) (ap (moved c ν r) e)

  -- by a wait that both accept
  pub extended_waiting : {ν : NetworkConfiguration} {τ : ChartConfiguration} (d : ℕ) → network.wait n r.network d ≡ done ν → chart.wait c r.chart d ≡ done τ → extended c n r (wait d) ≡ adding r ν τ (wait d) r.owed
  unfolding extended left
  extended_waiting {ν} d h e = rw (h, extended) (ap (λ (a : Answer ChartConfiguration). adding r ν (left r.chart a) (wait d) r.owed) e)

  -- a refused call adds nothing
  pub extended_step_refused : {k : ℕ} (ms : List ℕ) → network.step n r.network ms ≡ refused k → extended c n r (step ms) ≡ r
  unfolding extended
  extended_step_refused ms h = rw (h, extended)

  pub extended_wait_refused : {k : ℕ} (d : ℕ) → network.wait n r.network d ≡ refused k → extended c n r (wait d) ≡ r
  unfolding extended
  extended_wait_refused d h = rw (h, extended)

-- calls that follow each other
pub run_append : (c : Chart) (n : Network) (r : Run) (xs ys : List Call) → run_from c n r (xs ++ ys) ≡ run_from c n (run_from c n r xs) ys
unfolding run_from
run_append c n r [] ys = refl
run_append c n r (x ∷ xs) ys = run_append c n (extended c n r x) xs ys

-- one call more
pub run_more : (c : Chart) (n : Network) (calls : List Call) (x : Call) → run c n (calls ++ (x ∷ [])) ≡ extended c n (run c n calls) x
unfolding run run_from
run_more c n calls x = run_append c n _ calls (x ∷ [])

module _ (claims : AllClaims) (c : Chart) (passed : Passed c) (ranges : Ranges c) where
  abbrev n : Network
  n = flatten c

  -- what holds after every call
  record Invariant (r : Run) : Type 0 where
    related : Related c r.chart r.network r.owed
    accepts : accepts_all c (chart.start c) r.reading ≡ true
    leaves : chart_after c (chart.start c) r.reading ≡ r.chart

  -- a chart call that is accepted keeps it
  adding_keeps : {r : Run} → Invariant r → (x : Call) {ν : NetworkConfiguration} {τ : ChartConfiguration} {owed : ℕ} → on_chart c r.chart x ≡ done τ → Related c τ ν owed → Invariant (adding r ν τ x owed)
  adding_keeps {r} holds x e h =
      let k = accepts_more c (chart.start c) r.reading x holds.accepts (ap (λ (σ : ChartConfiguration). on_chart c σ x) holds.leaves ∙ e) in
      record { related = h; accepts = k.0; leaves = k.1 }

  -- with nothing owed the network's configuration is a picture
  module _ {r : Run} (holds : Invariant r) (none : r.owed ≡ 0) where
    is_picture : r.network ≡ picture c r.chart
    is_picture = claims.settled_is_picture c passed ranges r.chart r.network (subst (Related c r.chart r.network) none holds.related)

    -- so the network accepts in the one what it accepts in the other
    there : {A : Type 0} (f : NetworkConfiguration → Answer A) → Accepts (f r.network) → Accepts (f (picture c r.chart))
    there f a = subst (λ (ν : NetworkConfiguration). Accepts (f ν)) is_picture a

    here : {A : Type 0} (f : NetworkConfiguration → Answer A) → Accepts (f (picture c r.chart)) → Accepts (f r.network)
    here f a = subst (λ (ν : NetworkConfiguration). Accepts (f ν)) (sym is_picture) a

    waits : (d : ℕ) → Alike (network.wait n r.network d) (chart.wait c r.chart d)
    waits d = subst (λ (ν : NetworkConfiguration). Alike (network.wait n ν d) (chart.wait c r.chart d)) (sym is_picture) (claims.waits_alike c passed ranges r.chart holds.related.configured d)

    -- a move carries a step
    carried_step : (ms : List ℕ) {ν : NetworkConfiguration} → network.step n r.network ms ≡ done ν
        → (τ : ChartConfiguration) × (chart.step c r.chart (carried n ms) ≡ done τ) × (carried n ms ≡ [] → ⊥) × Related c τ ν (named c (carried n ms))
    carried_step ms {ν} h = claims.move_is_step c passed ranges r.chart holds.related.configured ms ν (ap (λ ν. network.step n ν ms) (sym is_picture) ∙ h)

    -- and adds it
    settled_move : (ms : List ℕ) {ν : NetworkConfiguration} → network.step n r.network ms ≡ done ν
        → (τ : ChartConfiguration) × (chart.step c r.chart (carried n ms) ≡ done τ) × (extended c n r (step ms) ≡ adding r ν τ (step (carried n ms)) (named c (carried n ms))) × Invariant (adding r ν τ (step (carried n ms)) (named c (carried n ms)))
    unfolding on_chart
    settled_move ms {ν} h =
        let k = carried_step ms h in (
          k.0,
          k.1,
          extended_adding c n r ms h k.2 k.1 ∙ ap (adding r ν k.0 (step (carried n ms))) (let e : r.owed + named c (carried n ms) ≡ named c (carried n ms) = omega arith in e),
          adding_keeps holds (step (carried n ms)) k.1 k.3,
        )

    -- a wait adds itself
    settled_wait : (d : ℕ) {τ : ChartConfiguration} → chart.wait c r.chart d ≡ done τ
        → (extended c n r (wait d) ≡ adding r (picture c τ) τ (wait d) 0) × Invariant (adding r (picture c τ) τ (wait d) 0)
    unfolding on_chart
    settled_wait d {τ} e =
        let k = claims.wait_is_picture c passed ranges r.chart τ d e in (
          extended_waiting c n r d (ap (λ ν. network.wait n ν d) is_picture ∙ k.0) e ∙ ap (adding r (picture c τ) τ (wait d)) none,
          adding_keeps holds (wait d) e (claims.picture_is_settled c passed ranges τ k.1),
        )

  -- with some owed a move pays one
  module _ {r : Run} (holds : Invariant r) (some : 0 < r.owed) where
    owes_more : Related c r.chart r.network (r.owed - 1 + 1)
    owes_more = subst (Related c r.chart r.network) (let e : r.owed ≡ r.owed - 1 + 1 = omega arith in e) holds.related

    owed_move : (ms : List ℕ) {ν : NetworkConfiguration} → network.step n r.network ms ≡ done ν → (is_urgent n ms ≡ true) × (carried n ms ≡ []) × (extended c n r (step ms) ≡ paying r ν) × Invariant (paying r ν)
    owed_move ms {ν} h =
        let k = claims.move_pays c passed ranges r.chart r.network (r.owed - 1) owes_more ms ν h in
        (k.0, k.1, extended_paying c n r ms h k.1, record { related = k.2; accepts = holds.accepts; leaves = holds.leaves })

  -- every call keeps the invariant
  step_keeps : {r : Run} → Invariant r → (ms : List ℕ) → Invariant (extended c n r (step ms))
  step_keeps {r} holds ms = go (network.step n r.network ms) refl
    where
      go : (a : Answer NetworkConfiguration) → network.step n r.network ms ≡ a → Invariant (extended c n r (step ms))
      go (done ν) h = elim (ℕ_discrete r.owed 0) [
        | yes e ↦ let k = settled_move holds e ms h in subst Invariant (sym k.2) k.3
        | no d ↦ let k = owed_move holds (omega arith) ms h in subst Invariant (sym k.2) k.3
      ]
      go (refused j) h = subst Invariant (sym (extended_step_refused c n r ms h)) holds

  wait_keeps : {r : Run} → Invariant r → (d : ℕ) → Invariant (extended c n r (wait d))
  unfolding Accepts
  wait_keeps {r} holds d = go (network.wait n r.network d) refl
    where
      go : (a : Answer NetworkConfiguration) → network.wait n r.network d ≡ a → Invariant (extended c n r (wait d))
      go (done ν) h = elim (ℕ_discrete r.owed 0) [
        | yes e ↦
            let a = alike_accepts _ _ (waits holds e d) (ν, h) in
            let k = settled_wait holds e d a.1 in
            subst Invariant (sym k.0) k.1
        | no z ↦ absurd (claims.no_wait_owed c passed ranges r.chart r.network r.owed holds.related (omega arith) d (ν, h))
      ]
      go (refused j) h = subst Invariant (sym (extended_wait_refused c n r d h)) holds

  run_keeps : {r : Run} → Invariant r → (calls : List Call) → Invariant (run_from c n r calls)
  unfolding run_from
  run_keeps holds [] = holds
  run_keeps {r = r} holds (step ms ∷ xs) = run_keeps {r = extended c n r (step ms)} (step_keeps holds ms) xs
  run_keeps {r = r} holds (wait d ∷ xs) = run_keeps {r = extended c n r (wait d)} (wait_keeps holds d) xs

  -- the invariant says all that is claimed
  module _ {r : Run} (holds : Invariant r) where
    variables_alike : r.network.variables ≡ r.chart.variables
    unfolding standing
    variables_alike = ap (λ (ν : NetworkConfiguration). ν.variables) holds.related.network_is

    clocks_alike : r.network.clocks ≡ r.chart.clocks
    unfolding standing
    clocks_alike = ap (λ (ν : NetworkConfiguration). ν.clocks) holds.related.network_is

    owing : 0 < r.owed → Owing n r
    unfolding Accepts
    owing some = record {
      no_wait = λ d a. claims.no_wait_owed c passed ranges r.chart r.network r.owed holds.related some d a;
      longest = claims.longest_owed c passed ranges r.chart r.network r.owed holds.related some;
      only_urgent = λ ms a. let k = owed_move holds some ms a.1 in (k.0, k.1);
      some_urgent = claims.some_move c passed ranges r.chart r.network (r.owed - 1) (owes_more holds some);
    }

    settled : r.owed ≡ 0 → Settled c n r
    unfolding Accepts
    settled none = record {
      pictures = is_picture holds none;
      carries = λ ms a. (carried_step holds none ms a.1).2;
      waits = waits holds none;
      longest = ap (network.longest n) (is_picture holds none) ∙ claims.longest_alike c passed ranges r.chart holds.related.configured;
      step_moves = λ ts a. let k = claims.step_is_move c passed ranges r.chart holds.related.configured ts a in (k.0, here holds none (λ ν. network.step n ν k.0) k.1, k.2);
      move_steps = λ ms a. let k = carried_step holds none ms a.1 in (k.0, k.1);
      same_refusal =
          λ ms k late h.
          claims.move_refused c passed ranges r.chart holds.related.configured ms k late
          (ap (λ (ν : NetworkConfiguration). network.step n ν ms) (sym (is_picture holds none)) ∙ h);
      refusal_moves =
          λ ts k late h.
          let m = claims.step_refused c passed ranges r.chart holds.related.configured ts k late h in
          (m.0, ap (λ (ν : NetworkConfiguration). network.step n ν m.0) (is_picture holds none) ∙ m.1, m.2);
      only_one = λ ms ns a b. claims.one_move c passed ranges r.chart holds.related.configured ms ns (there holds none (λ ν. network.step n ν ms) a) (there holds none (λ ν. network.step n ν ns) b);
    }

    urgent_carries_none : (ms : List ℕ) → Accepts (network.step n r.network ms) → is_urgent n ms ≡ true → carried n ms ≡ []
    unfolding Accepts
    urgent_carries_none ms a u = elim (ℕ_discrete r.owed 0) [
      | yes e ↦ clash u (claims.no_urgent_move c passed ranges r.chart holds.related.configured ms (there holds e (λ ν. network.step n ν ms) a))
      | no d ↦ (owed_move holds (omega arith) ms a.1).1
    ]

  -- the start
  starts : Invariant (record { network = network.start n; chart = chart.start c; reading = []; owed = 0 })
  unfolding accepts_all chart_after
  starts = record {
    related = subst (λ (ν : NetworkConfiguration). Related c (chart.start c) ν 0) (sym (claims.start_is_picture c passed ranges)) (claims.picture_is_settled c passed ranges (chart.start c) (claims.start_is_configuration c passed ranges));
    accepts = refl;
    leaves = refl;
  }

  agrees : (calls : List Call) → Agrees c n calls
  unfolding run
  agrees calls = let holds = run_keeps starts calls in record {
    accepts_reading = holds.accepts;
    reading_leaves = holds.leaves;
    same_variables = variables_alike holds;
    same_clocks = clocks_alike holds;
    bears_once = claims.bears_once c passed ranges _;
    urgent_carries_none = urgent_carries_none holds;
    owing = owing holds;
    settled = settled holds;
  }

  -- a chart list is read from a network list: some calls lead from a run to one that has read just this, and owes nothing
  record Reaches (r : Run) (reading : List Call) (σ : ChartConfiguration) : Type 0 where
    calls : List Call
    holds : Invariant (run_from c n r calls)
    reading_is : (run_from c n r calls).reading ≡ reading
    chart_is : (run_from c n r calls).chart ≡ σ
    none_owed : (run_from c n r calls).owed ≡ 0

  module _ {r : Run} {reading : List Call} {σ : ChartConfiguration} where
    reaches_by : (x : Call) {s : Run} → extended c n r x ≡ s → Reaches s reading σ → Reaches r reading σ
    unfolding run_from
    reaches_by x {s} e h = let k = subst (λ (s : Run). Reaches s reading σ) (sym e) h in record { calls = x ∷ k.calls; holds = k.holds; reading_is = k.reading_is; chart_is = k.chart_is; none_owed = k.none_owed }

    reaches_then : {more : List Call} {τ : ChartConfiguration} → (h : Reaches r reading σ) → Reaches (run_from c n r h.calls) more τ → Reaches r more τ
    reaches_then h k = let e = run_append c n r h.calls k.calls in record {
      calls = h.calls ++ k.calls;
      holds = subst Invariant (sym e) k.holds;
      reading_is = ap (λ (s : Run). s.reading) e ∙ k.reading_is;
      chart_is = ap (λ (s : Run). s.chart) e ∙ k.chart_is;
      none_owed = ap (λ (s : Run). s.owed) e ∙ k.none_owed;
    }

  -- by making the moves that are owed
  pays_all : (k : ℕ) {r : Run} → Invariant r → r.owed ≡ k → Reaches r r.reading r.chart
  unfolding run_from Accepts
  pays_all zero h e = record { calls = []; holds = h; reading_is = refl; chart_is = refl; none_owed = e }
  pays_all (suc k) {r} h e =
      let some : 0 < r.owed = omega arith in
      let m = claims.some_move c passed ranges r.chart r.network (r.owed - 1) (owes_more h some) in
      let p = owed_move h some m.0 m.1.1 in
      reaches_by (step m.0) p.2 (pays_all k p.3 (let e : r.owed - 1 ≡ k = omega arith in e))

  -- by a chart call that is accepted
  reaches_call : {r : Run} → Invariant r → r.owed ≡ 0 → (x : Call) {τ : ChartConfiguration} → on_chart c r.chart x ≡ done τ → Reaches r (r.reading ++ (x ∷ [])) τ
  unfolding on_chart Accepts
  reaches_call {r} h none (step ts) {τ} e =
      let m = claims.step_is_move c passed ranges r.chart h.related.configured ts (τ, e) in
      let a = here h none (λ ν. network.step n ν m.0) m.1 in
      let k = settled_move h none m.0 a.1 in
      subst₂ (λ (ts : List ℕ) (τ : ChartConfiguration). Reaches r (r.reading ++ (step ts ∷ [])) τ) m.2 (done_injective (sym k.1 ∙ ap (chart.step c r.chart) m.2 ∙ e)) (reaches_by (step m.0) k.2 (pays_all _ k.3 refl))
  reaches_call {r} h none (wait d) e = let k = settled_wait h none d e in reaches_by (wait d) k.0 (pays_all 0 k.1 refl)

  -- so by a chart list, call by call
  abbrev ReachesList : Run → List Call → Type 0
  ReachesList r calls = Reaches r (r.reading ++ accepted c r.chart calls) (chart_after c r.chart calls)

  reaches_first : (x : Call) (xs : List Call) → ((r : Run) → Invariant r → r.owed ≡ 0 → ReachesList r xs) → (r : Run) → Invariant r → r.owed ≡ 0 → ReachesList r (x ∷ xs)
  unfolding accepted chart_after left
  reaches_first x xs more r h none = go (on_chart c r.chart x) refl
    where
      go : (a : Answer ChartConfiguration) → on_chart c r.chart x ≡ a → Reaches r (r.reading ++ (elim a [ done τ ↦ x ∷ accepted c τ xs | refused k ↦ accepted c r.chart xs ])) (chart_after c (left r.chart a) xs)
      go (done τ) e =
          let k = reaches_call h none x e in
          let l = more (run_from c n r k.calls) k.holds k.none_owed in
          reaches_then k (subst₂ (λ (ys : List Call) (σ : ChartConfiguration). Reaches (run_from c n r k.calls) ys (chart_after c σ xs))
          (ap (λ (ys : List Call). ys ++ accepted c (run_from c n r k.calls).chart xs) k.reading_is ∙ append_assoc r.reading (x ∷ []) _ ∙ ap (λ (σ : ChartConfiguration). r.reading ++ (x ∷ accepted c σ xs)) k.chart_is) k.chart_is l)
      go (refused j) e = more r h none

  reaches_list : (calls : List Call) (r : Run) → Invariant r → r.owed ≡ 0 → ReachesList r calls
  unfolding accepted chart_after
  reaches_list [] r h none = subst (λ (ys : List Call). Reaches r ys r.chart) (sym (append-nil r.reading)) (pays_all 0 h none)
  reaches_list (x ∷ xs) r h none = reaches_first x xs (reaches_list xs) r h none

  is_read : (calls : List Call) → IsRead c n calls
  unfolding run
  is_read calls = let k = reaches_list calls _ starts refl in record { from = k.calls; reading_is = k.reading_is; chart_is = k.chart_is; none_owed = k.none_owed }

-- a file and what it holds
holds_by : {file bytes : List ℕ} {c : Chart} {n : Network} → chart_of file ≡ done c → network_of bytes ≡ done n → Holds file bytes c n
unfolding chart.start_of chart.step_of chart.wait_of chart.longest_of network.start_of network.step_of network.wait_of network.longest_of ◌>>=◌
holds_by h k = record {
  network_is = k;
  chart_starts = rw h;
  chart_steps = λ σ ms. rw h;
  chart_waits = λ σ d. rw h;
  chart_longest = λ σ. rw h;
  network_starts = rw k;
  network_steps = λ σ ms. rw k;
  network_waits = λ σ d. rw k;
  network_longest = λ σ. rw k;
}

pub demand3_by : AllClaims → Demand3
demand3_by claims file bytes room c h f =
    let r = chart_at_lem file h in
    let k = flattened_at file room f in
    let e = k.network_is ∙ ap (λ (x : Chart). done (flatten x)) (done_injective (sym k.chart_is ∙ h)) in
    (flatten c, holds_by h e, agrees claims c r.0 r.1, is_read claims c r.0 r.1)
