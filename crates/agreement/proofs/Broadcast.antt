-- A broadcast on one of the network's own channels: a sender and all that hear it, each edge the network's own. Where the
-- automata are at f a move of which the sender is a member is this one, and leads to g (`broadcast_leads`); and there is such
-- a move (`broadcast_accepted`).
use mathlib.Core.Path.{◌≡◌, refl, sym, ap, ap₂, ◌∙◌, subst}
use mathlib.Core.Bool.{Bool, true, not, ◌&&◌, ◌||◌}
use mathlib.Core.Logic.{◌⊎◌, inl, inr, ⊎_elim, ◌≢◌}
use mathlib.Core.List.{List, [], map, Memᴰ as Mem}
use Prim.Native.Nat.{ℕ, ◌≤◌, ◌<◌}
use native.Mathlib.Omega.{arith}
use native.Mathlib.Decide.{ℕ_discrete}
use borrow.Author.Tests.{eqb-true, eq-eqb}
use lib.Dec.{eqb}
use lib.IntN.{ℤ}
use lib.ListN.{length}
use Rattle.lists.specs.Lists.{keep, below, ascending}
use Rattle.reading.specs.Answer.{done}
use Rattle.labels.specs.Label.{Label, receives}
use Rattle.lists.proofs.Bools.{and_l, and_r, both, or_l, or_r, or_cases, not_no}
use Rattle.lists.proofs.Lists.{map_at, map_by, keep_none, mem_some}
use Rattle.lists.proofs.Once.{Once}
use Rattle.lists.proofs.Ascending.{ascending_once}
use Rattle.labels.proofs.Labels.{Receives, receives_at, receives_by}
use Rattle.chart_records.specs.Chart.{Chart}
use Rattle.chart_records.specs.Tree.{sequentials}
use Rattle.chart_records.proofs.Rules.{Passed}
use Rattle.chart_records.proofs.Ranges.{Ranges}
use Rattle.network_records.specs.Network.{Edge, Network, urgent_at, edge_at, owner_of}
use Rattle.network_moves.specs.Machine.{is_configuration, bounds_kept, active_edge, after, step}
use Rattle.flattening.specs.Flatten.{Place, automaton, same_place, sorted, signalling, edge, own_edge, urgent_place, flatten}
use Rattle.flattening.proofs.Automata.{Region, automaton_lt, automaton_injective}
use Rattle.flattening.proofs.Numbers.{same_place_by, urgent_of_place}
use Rattle.flattening.proofs.Edges.{Leaves, edges_by, edge_at_mem, mem_edge_at, owner_of_lem, source_of}
use Rattle.flattening.proofs.Order.{edge_at_injective}
use Rattle.agreement.specs.Agreement.{NetworkConfiguration, is_urgent, carried}
use Rattle.agreement.proofs.Relation.{standing}
use Rattle.steps.proofs.Sets.{passing_at, passing_by, passing_ascending, values_length, AllowedSet, Joint, Full}
use Rattle.agreement.proofs.Standing.{Fits, Takes, takes_by, Signals, signals_variables, signals_stay, signals_clocks, active_own, active_leaves, after_standing}
use Rattle.agreement.proofs.Accepted.{Accepted, accepted_by, urgent_by}

-- the automaton of `home` sends, and takes itself from where f has it to where g has it; so do all that hear it
pub record Broadcast (c : Chart) (f g : ℕ → Place) (home channel : ℕ) : Type 0 where
  pub region : Region c home
  pub is_urgent_lem : urgent_place (f home) ≡ 1
  pub is_broadcast : c.rendezvous ≤ channel
  -- the edges from there: only the sender
  pub sent_by : Leaves c (f home) (own_edge c (f home) (g home) (signalling 1 channel))
  pub sent_at : (e : Edge) → Leaves c (f home) e → e ≡ own_edge c (f home) (g home) (signalling 1 channel)
  -- a receiver takes its automaton from where f has it to where g has it; where these differ there is one
  pub heard_at : (q : ℕ) → Region c q → (e : Edge) → Leaves c (f q) e → Receives e.label channel → e ≡ own_edge c (f q) (g q) (signalling 2 channel)
  pub heard_by : (q : ℕ) → Region c q → q ≢ home → (g q ≡ f q) ⊎ Leaves c (f q) (own_edge c (f q) (g q) (signalling 2 channel))

module _ (c : Chart) (passed : Passed c) (ranges : Ranges c) (f g : ℕ → Place) (fits : Fits c f) (fits_after : Fits c g) (vs : List ℤ) (cs : List ℕ)
    (home channel : ℕ) (b : Broadcast c f g home channel) where
  abbrev net : Network
  net = flatten c

  abbrev now : NetworkConfiguration
  now = standing c f vs cs

  abbrev count : ℕ
  count = length (flatten c).edges

  -- the edge that takes the automaton of q
  abbrev own_at : ℕ → ℕ → Edge
  own_at q signal = own_edge c (f q) (g q) (signalling signal channel)

  -- an edge that leaves where f has q has q's automaton for its owner
  owner_at_lem : (q : ℕ) → Region c q → (e : Edge) → Leaves c (f q) e → owner_of net e ≡ automaton c q
  owner_at_lem q r e l = owner_of_lem c (f q) e (fits q r).is_place l ∙ ap (automaton c) (fits q r).home_is

  own_active : (q : ℕ) → Region c q → (e : Edge) (signal : ℕ) → e ≡ own_at q signal → active_edge net now e ≡ true
  own_active q r e signal h = active_own c passed f vs cs fits (f q) e (fits q r).is_place (g q) signal channel h
      ∙ ap (λ (x : ℕ). same_place (f x) (f q)) (fits q r).home_is ∙ same_place_by (f q)

  -- the sender's number
  sender_of : (m : ℕ) × (m < count) × (edge_at net m ≡ own_at home 1)
  sender_of = mem_edge_at net (edges_by c passed ranges (fits home b.region).is_place b.sent_by)

  -- an active receiver is the one of its automaton
  receiver_at_lem : (m : ℕ) → m < count → active_edge net now (edge_at net m) ≡ true → Receives (edge_at net m).label channel
      → (q : ℕ) × Region c q × Leaves c (f q) (edge_at net m) × (edge_at net m ≡ own_at q 2)
  receiver_at_lem m l a r = let k = active_leaves c passed f vs cs fits (edge_at_mem net m l) a in (k.0, k.1, k.2, b.heard_at k.0 k.1 (edge_at net m) k.2 r)

  -- the members of the move: the sender and all receivers
  abbrev Member : ℕ → Type 0
  Member m = (q : ℕ) × Region c q × Leaves c (f q) (edge_at net m) × (((q ≡ home) × (edge_at net m ≡ own_at q 1)) ⊎ (edge_at net m ≡ own_at q 2))

  member_takes : (m : ℕ) → Member m → Takes c f g (edge_at net m)
  unfolding own_edge
  member_takes m k = ⊎_elim (λ e. takes_by c f g fits k.0 k.1 255 255 0 (signalling 1 channel) e.1) (λ e. takes_by c f g fits k.0 k.1 255 255 0 (signalling 2 channel) e) k.3

  member_owner_lem : (m : ℕ) (k : Member m) → owner_of net (edge_at net m) ≡ automaton c k.0
  member_owner_lem m k = owner_at_lem k.0 k.1 _ k.2

  member_signals : (m : ℕ) → Member m → Signals (edge_at net m).label
  unfolding own_edge edge
  member_signals m k = ⊎_elim (λ e. (1, channel, ap (λ (x : Edge). x.label) e.1)) (λ e. (2, channel, ap (λ (x : Edge). x.label) e)) k.3

  member_bare : (m : ℕ) → Member m → (edge_at net m).transition ≡ 255
  unfolding own_edge edge
  member_bare m k = ⊎_elim (λ e. ap (λ (x : Edge). x.transition) e.1) (λ e. ap (λ (x : Edge). x.transition) e) k.3

  -- no receiver leaves where the sender does
  home_sends : (e : Edge) → Leaves c (f home) e → e ≡ own_at home 2 → ⊥
  unfolding own_edge edge signalling
  home_sends e l h =
      let s : e.label.signal ≡ 1 = ap (λ (x : Edge). x.label.signal) (b.sent_at e l) in
      let t : e.label.signal ≡ 2 = ap (λ (x : Edge). x.label.signal) h in
      omega arith

  module _ (ms : List ℕ) (members : (m : ℕ) → Mem m ms → Member m) where
    abbrev edges : List Edge
    edges = map (edge_at net) ms

    edge_takes : (e : Edge) → Mem e edges → Takes c f g e
    edge_takes e k = let r = map_at (edge_at net) ms k in subst (Takes c f g) (sym r.2) (member_takes r.0 (members r.0 r.1))

    label_signals : (l : Label) → Mem l (map (λ e. e.label) edges) → Signals l
    label_signals l k =
        let r = map_at (λ e. e.label) edges k in
        let j = map_at (edge_at net) ms r.1 in
        subst Signals (ap (λ (e : Edge). e.label) (sym j.2) ∙ sym r.2) (member_signals j.0 (members j.0 j.1))

    -- where every automaton that g has elsewhere is owner of a member the move leads to g
    leads : ((q : ℕ) → Region c q → (g q ≡ f q) ⊎ ((m : ℕ) × Mem m ms × (owner_of net (edge_at net m) ≡ automaton c q))) → after net edges now ≡ standing c g vs cs
    leads h = after_standing c passed f g fits_after edges edge_takes
        (λ q r n. ⊎_elim (λ e. e) (λ k. absurd (n (edge_at net k.0) (map_by (edge_at net) k.1) k.2)) (h q r)) vs cs
        ∙ ap₂ (standing c g) (signals_variables _ vs label_signals) (signals_clocks _ cs label_signals)

    carries_none : carried net ms ≡ []
    unfolding carried sorted
    carries_none = ap sorted (keep_none (λ t. not (eqb t 255)) _ (λ t k. let r = map_at (λ m. (edge_at net m).transition) ms k in not_no (eq-eqb t 255 (r.2 ∙ member_bare r.0 (members r.0 r.1)))))

  -- where an automaton hears the sender there is a receiver
  receiver_of : (q : ℕ) → Region c q → q ≢ home → (g q ≡ f q)
      ⊎ ((k : ℕ) × (k < count) × Receives (edge_at net k).label channel × (active_edge net now (edge_at net k) ≡ true) × (owner_of net (edge_at net k) ≡ automaton c q))
  unfolding own_edge edge signalling
  receiver_of q r d = ⊎_elim inl (λ l.
      let k = mem_edge_at net (edges_by c passed ranges (fits q r).is_place l) in
      inr (k.0, k.1, (ap (λ (x : Edge). x.label.signal) k.2, ap (λ (x : Edge). x.label.channel) k.2), own_active q r _ 2 k.2, ap (owner_of net) k.2 ∙ owner_at_lem q r _ l)) (b.heard_by q r d)

  urgent_home : (e : Edge) → Leaves c (f home) e → urgent_at net e.source ≡ true
  unfolding urgent_at
  urgent_home e l = ap (urgent_at net) (source_of c (f home) e l) ∙ eq-eqb _ 1 (urgent_of_place c (fits home b.region).is_place ∙ b.is_urgent_lem)

  -- a move with the sender
  module _ (ms : List ℕ) {μ : NetworkConfiguration} (accepted : Accepted net now ms μ) (m₀ : ℕ) (is_member : Mem m₀ ms) (from-home : Leaves c (f home) (edge_at net m₀)) where
    abbrev label_at : ℕ → Label
    label_at m = (edge_at net m).label

    abbrev JointMove : Type 0
    JointMove = Joint label_at (λ m. owner_of net (edge_at net m)) (λ m. active_edge net now (edge_at net m)) count net.rendezvous ms

    first_signal : (label_at m₀).signal ≡ 1
    unfolding own_edge edge signalling
    first_signal = ap (λ (x : Edge). x.label.signal) (b.sent_at _ from-home)

    first_channel : (label_at m₀).channel ≡ channel
    unfolding own_edge edge signalling
    first_channel = ap (λ (x : Edge). x.label.channel) (b.sent_at _ from-home)

    joint : JointMove
    joint = ⊎_elim (λ a. absurd (omega (arith, first_signal, a.silent, ap (λ (m : ℕ). (label_at m).signal) (a.only m₀ is_member)))) (λ j. j) accepted.tests.is_allowed_lem.signals

    first_sends : m₀ ≡ joint.sender
    first_sends = ⊎_elim (λ e. e) (λ r. absurd (omega (arith, first_signal, r.0))) (joint.signalled.others m₀ is_member)

    on_channel : joint.channel ≡ channel
    on_channel = sym joint.signalled.sent.1 ∙ ap (λ (m : ℕ). (label_at m).channel) (sym first_sends) ∙ first_channel

    full : Full label_at (λ m. owner_of net (edge_at net m)) (λ m. active_edge net now (edge_at net m)) count channel ms
    unfolding flatten
    full = ⊎_elim (λ k. absurd (omega (arith, k.0, on_channel, b.is_broadcast))) (λ k. subst (λ (ch : ℕ). Full label_at (λ m. owner_of net (edge_at net m)) (λ m. active_edge net now (edge_at net m)) count ch ms) on_channel k.1) joint.fits

    member_of : (m : ℕ) → Mem m ms → Member m
    member_of m k = ⊎_elim
        (λ e. subst Member (first_sends ∙ sym e) (home, b.region, from-home, inl (refl, b.sent_at _ from-home)))
        (λ r. let j = receiver_at_lem m (accepted.tests.are_known.each m k) (accepted.tests.each_active m k) (r.0, r.1 ∙ on_channel) in (j.0, j.1, j.2, inr j.3))
        (joint.signalled.others m k)

    all_heard : (q : ℕ) → Region c q → (g q ≡ f q) ⊎ ((m : ℕ) × Mem m ms × (owner_of net (edge_at net m) ≡ automaton c q))
    all_heard q r = elim (ℕ_discrete q home) [
      | yes e ↦ inr (m₀, is_member, owner_at_lem home b.region _ from-home ∙ ap (automaton c) (sym e))
      | no d ↦ ⊎_elim inl (λ k. let j = full k.0 k.1 k.2 k.3 in inr (j.0, j.1, j.2 ∙ k.4)) (receiver_of q r d)
    ]

    pub broadcast_leads : (μ ≡ standing c g vs cs) × (carried net ms ≡ []) × (is_urgent net ms ≡ true)
    broadcast_leads = (sym accepted.result ∙ leads ms member_of all_heard, carries_none ms member_of, urgent_by net ms is_member (urgent_home _ from-home))

  -- and there is one: the sender and all active receivers
  module _ (given : is_configuration net now ≡ true) (kept : bounds_kept net (standing c g vs cs) ≡ true) where
    abbrev sender : ℕ
    sender = sender_of.0

    abbrev takes_part : ℕ → Bool
    takes_part m = eqb m sender || (active_edge net now (edge_at net m) && receives (edge_at net m).label channel)

    everyone : List ℕ
    everyone = keep takes_part (below count)

    everyone_at : (m : ℕ) → Mem m everyone → (m < count) × ((m ≡ sender) ⊎ ((active_edge net now (edge_at net m) ≡ true) × Receives (edge_at net m).label channel))
    unfolding everyone
    everyone_at m k = let r = passing_at takes_part count k in
        (r.0, ⊎_elim (λ e. inl (eqb-true m sender e)) (λ h. inr (and_l (active_edge net now (edge_at net m)) _ h, receives_at (edge_at net m).label channel (and_r (active_edge net now (edge_at net m)) _ h))) (or_cases (eqb m sender) _ r.1))

    sender_in : Mem sender everyone
    unfolding everyone
    sender_in = passing_by takes_part count sender_of.1 (or_l _ (eq-eqb sender sender refl))

    receiver_in : (m : ℕ) → m < count → active_edge net now (edge_at net m) ≡ true → Receives (edge_at net m).label channel → Mem m everyone
    unfolding everyone
    receiver_in m l a r = passing_by takes_part count l (or_r (eqb m sender) (both a (receives_by (edge_at net m).label channel r)))

    sender_leaves : Leaves c (f home) (edge_at net sender)
    sender_leaves = subst (Leaves c (f home)) (sym sender_of.2) b.sent_by

    sender_member : Member sender
    sender_member = (home, b.region, sender_leaves, inl (refl, sender_of.2))

    member : (m : ℕ) → Mem m everyone → Member m
    member m k = let r = everyone_at m k in ⊎_elim (λ e. subst Member (sym e) sender_member) (λ h. let j = receiver_at_lem m r.0 h.0 h.1 in (j.0, j.1, j.2, inr j.3)) r.1

    -- no automaton owns two
    one_each : (m k : ℕ) → Mem m everyone → Mem k everyone → owner_of net (edge_at net m) ≡ owner_of net (edge_at net k) → m ≡ k
    one_each m k i j e =
        let x = member m i in
        let y = member k j in
        edge_at_injective c m k (everyone_at m i).0 (everyone_at k j).0 (same_edge x y (automaton_injective c x.1 y.1 (sym (member_owner_lem m x) ∙ e ∙ member_owner_lem k y)))
      where
        at_home : (m q : ℕ) → Leaves c (f q) (edge_at net m) → q ≡ home → edge_at net m ≡ own_at q 2 → ⊥
        at_home m q l h e = home_sends (edge_at net m) (subst (λ (x : ℕ). Leaves c (f x) (edge_at net m)) h l) (e ∙ ap (λ (x : ℕ). own_at x 2) h)

        same_edge : (x : Member m) (y : Member k) → x.0 ≡ y.0 → edge_at net m ≡ edge_at net k
        same_edge x y h = ⊎_elim
            (λ p. ⊎_elim (λ r. p.1 ∙ ap (λ (z : ℕ). own_at z 1) h ∙ sym r.1) (λ r. absurd (at_home k y.0 y.2 (sym h ∙ p.0) r)) y.3)
            (λ p. ⊎_elim (λ r. absurd (at_home m x.0 x.2 (h ∙ r.0) p)) (λ r. p ∙ ap (λ (z : ℕ). own_at z 2) h ∙ sym r) y.3)
            x.3

    everyone_ascends : ascending everyone ≡ true
    unfolding everyone
    everyone_ascends = passing_ascending takes_part count

    everyone_once : Once everyone
    everyone_once = ascending_once everyone everyone_ascends

    everyone_few : length everyone ≤ 16
    everyone_few = omega (
      arith,
      passed.at_most,
      values_length (λ m. owner_of net (edge_at net m)) (length (sequentials c)) everyone everyone_once
          (λ m k. let x = member m k in omega (arith, member_owner_lem m x, automaton_lt c x.1)) one_each,
    )

    everyone_allowed : AllowedSet (λ m. (edge_at net m).label) (λ m. owner_of net (edge_at net m)) (λ m. active_edge net now (edge_at net m)) count net.rendezvous everyone
    unfolding own_edge edge signalling flatten
    everyone_allowed = record {
      owners = one_each;
      once = everyone_once;
      signals = inr (record {
        sender = sender;
        channel = channel;
        signalled = record {
          is_member = sender_in;
          sent = (ap (λ (x : Edge). x.label.signal) sender_of.2, ap (λ (x : Edge). x.label.channel) sender_of.2);
          others = λ m k. ⊎_elim inl (λ h. inr h.1) (everyone_at m k).1;
        };
        fits = inr (b.is_broadcast, λ k l r a. (k, receiver_in k l a r, refl));
      });
    }

    everyone_leads : after net (map (edge_at net) everyone) now ≡ standing c g vs cs
    everyone_leads = leads everyone member (λ q r. elim (ℕ_discrete q home) [
      | yes e ↦ inr (sender, sender_in, owner_at_lem home b.region _ sender_leaves ∙ ap (automaton c) (sym e))
      | no d ↦ ⊎_elim inl (λ k. inr (k.0, receiver_in k.0 k.1 k.3 k.2, k.4)) (receiver_of q r d)
    ])

    pub broadcast_accepted : (ms : List ℕ) × (step net now ms ≡ done (standing c g vs cs))
    broadcast_accepted = (
      everyone,
      accepted_by net now everyone (record {
        tests =
            record {
              given = given;
              are_known = record { some = mem_some sender_in; few = everyone_few; ascends = everyone_ascends; each = λ m k. (everyone_at m k).0 };
              each_active = λ m k. let x = member m k in ⊎_elim (λ e. own_active x.0 x.1 _ 1 e.1) (λ e. own_active x.0 x.1 _ 2 e) x.3;
              urgent_first = λ u. urgent_by net everyone sender_in (urgent_home _ sender_leaves);
              is_allowed_lem = everyone_allowed;
            };
        all_stay_lem =
            signals_stay _ _ (λ l k.
            let r = map_at (λ m. (edge_at net m).label) everyone k in
            subst Signals (sym r.2) (member_signals r.0 (member r.0 r.1)));
        bounds_kept_lem = kept;
        result = everyone_leads;
      }),
    )
