-- Lists of edges and lists of transitions. In the picture each active transition is carried by one edge, and a move of the
-- network is made of such edges (`move_carries`): the edges of a move and the transitions that it carries correspond
-- (`carried_matches`). So the one is allowed as the other is (`carried_allowed`), and a list of active transitions is carried
-- by one list of edges (`carriers`).
use mathlib.Core.Path.{◌≡◌, sym, ap, ◌∙◌, subst}
use mathlib.Core.Bool.{true, ◌&&◌}
use mathlib.Core.Logic.{◌⊎◌, inl, inr, ⊎_elim, ◌≢◌}
use mathlib.Core.List.Memᴰ.{cast}
use mathlib.Core.List.{List, Memᴰ as Mem}
use Prim.Native.Nat.{ℕ, ◌+◌, ◌≤◌, ◌<◌}
use native.Mathlib.Omega.{arith}
use borrow.Author.Tests.{ne_eqb}
use lib.ListN.{length}
use Rattle.lists.specs.Lists.{keep, below, elem, ascending}
use Rattle.labels.specs.Label.{Label}
use Rattle.steps.specs.Moves.{allowed}
use Rattle.lists.proofs.Bools.{and_l, and_r, both, not_yes}
use Rattle.lists.proofs.Lists.{keep_at, keep_by, map_at, map_by, elem_at, elem_by}
use Rattle.lists.proofs.Ascending.{ascending_once, ascending_same}
use Rattle.labels.proofs.Labels.{Sends}
use Rattle.steps.proofs.Sets.{passing_at, passing_by, passing_ascending, Matched, matched_by, Corresponds, allowed_alike}
use Rattle.chart_records.specs.Chart.{Chart, transition_at, home}
use Rattle.chart_moves.specs.Machine.{is_tree, active_transition}
use Rattle.chart_records.proofs.Rules.{Passed}
use Rattle.chart_records.proofs.Ranges.{Ranges}
use Rattle.chart_rules.proofs.TransitionRules.{channel_lt}
use Rattle.network_records.specs.Network.{Edge, edge_at, owner_of}
use Rattle.network_moves.specs.Machine.{active_edge}
use Rattle.flattening.specs.Flatten.{child, edge, automaton, place_home, flatten}
use Rattle.flattening.specs.Picture.{picture}
use Rattle.flattening.proofs.Automata.{automaton_injective}
use Rattle.flattening.proofs.Sums.{sorted_at, sorted_by, sorted_ascending}
use Rattle.flattening.proofs.Arrivals.{ends, source_place}
use Rattle.flattening.proofs.Edges.{edge_at_mem, mem_edge_at, owner_of_lem}
use Rattle.flattening.proofs.Order.{edge_at_injective}
use Rattle.agreement.specs.Agreement.{ChartConfiguration, carried}
use Rattle.agreement.proofs.Accepted.{Move}
use Rattle.agreement.proofs.Bearing.{carrier, carrier_leaves, carrier_mem, carrier_active, active_edges}

-- the edge m carries the transition t, which is active
pub record Carries (c : Chart) (σ : ChartConfiguration) (m t : ℕ) : Type 0 where
  pub edge_known : m < length (flatten c).edges
  pub known : t < length c.transitions
  pub is_active_lem : active_transition c σ (transition_at c t) ≡ true
  pub edge_is : edge_at (flatten c) m ≡ carrier c σ t

-- the edge bears t and has its label
pub carries_transition : (c : Chart) (σ : ChartConfiguration) (m t : ℕ) → Carries c σ m t → (edge_at (flatten c) m).transition ≡ t
unfolding carrier edge
carries_transition c σ m t k = ap (λ (e : Edge). e.transition) k.edge_is

pub carries_label : (c : Chart) (σ : ChartConfiguration) (m t : ℕ) → Carries c σ m t → (edge_at (flatten c) m).label ≡ (transition_at c t).label
unfolding carrier edge
carries_label c σ m t k = ap (λ (e : Edge). e.label) k.edge_is

-- the transitions that some edges carry
pub carried_at : (c : Chart) (ms : List ℕ) {t : ℕ} → Mem t (carried (flatten c) ms) → (m : ℕ) × Mem m ms × ((edge_at (flatten c) m).transition ≡ t)
unfolding carried
carried_at c ms k = let r = map_at _ ms (keep_at _ _ (sorted_at _ k)).0 in (r.0, r.1, sym r.2)

pub carried_by_lem : (c : Chart) (ms : List ℕ) {m : ℕ} → Mem m ms → (edge_at (flatten c) m).transition ≢ 255 → Mem (edge_at (flatten c) m).transition (carried (flatten c) ms)
unfolding carried
carried_by_lem c ms {m} k d = sorted_by _ (keep_by _ _ (map_by (λ m. (edge_at (flatten c) m).transition) k) (not_yes (ne_eqb (edge_at (flatten c) m).transition 255 d)))

pub carried_ascends : (c : Chart) (ms : List ℕ) → ascending (carried (flatten c) ms) ≡ true
unfolding carried
carried_ascends c ms = sorted_ascending _

module _ (c : Chart) (passed : Passed c) (ranges : Ranges c) where
  module _ (σ : ChartConfiguration) (tree : is_tree c σ ≡ true) where
    -- its owner is the automaton of t's home
    pub carries_owner : (m t : ℕ) → Carries c σ m t → owner_of (flatten c) (edge_at (flatten c) m) ≡ automaton c (home c t)
    unfolding place_home home
    carries_owner m t k = ap (owner_of (flatten c)) k.edge_is ∙ owner_of_lem c (child (transition_at c t).source) (carrier c σ t) (source_place c passed ranges t k.known).is_place (carrier_leaves c passed ranges σ tree t k.known k.is_active_lem)

    pub carries_active : (m t : ℕ) → Carries c σ m t → active_edge (flatten c) (picture c σ) (edge_at (flatten c) m) ≡ true
    carries_active m t k = ap (active_edge (flatten c) (picture c σ)) k.edge_is ∙ carrier_active c passed ranges σ tree t k.known k.is_active_lem

    -- one edge carries t
    pub carries_one : (m k t : ℕ) → Carries c σ m t → Carries c σ k t → m ≡ k
    carries_one m k t a b = edge_at_injective c m k a.edge_known b.edge_known (a.edge_is ∙ sym b.edge_is)

    pub carrier_of : (t : ℕ) → t < length c.transitions → active_transition c σ (transition_at c t) ≡ true → (m : ℕ) × Carries c σ m t
    carrier_of t h a = let r = mem_edge_at (flatten c) (carrier_mem c passed ranges σ tree t h a) in (r.0, record { edge_known = r.1; known = h; is_active_lem = a; edge_is = r.2 })

    -- an active edge carries a transition, or hears a channel of the network's own
    pub active_carries : (m : ℕ) → m < length (flatten c).edges → active_edge (flatten c) (picture c σ) (edge_at (flatten c) m) ≡ true
        → ((t : ℕ) × Carries c σ m t)
        ⊎ (((edge_at (flatten c) m).transition ≡ 255) × ((edge_at (flatten c) m).label.signal ≡ 2) × (c.rendezvous + c.broadcasts ≤ (edge_at (flatten c) m).label.channel))
    active_carries m h a = ⊎_elim
        (λ k. inl (k.0, record { edge_known = h; known = k.1; is_active_lem = k.2; edge_is = k.3 }))
        (λ k. inr k)
        (active_edges c passed ranges σ tree (edge_at (flatten c) m) (edge_at_mem (flatten c) m h) a)

    -- a sender that is active signals on a channel of the chart
    sender_channel : (m ch : ℕ) → m < length (flatten c).edges → active_edge (flatten c) (picture c σ) (edge_at (flatten c) m) ≡ true → Sends (edge_at (flatten c) m).label ch → ch < c.rendezvous + c.broadcasts
    sender_channel m ch h a s = ⊎_elim
        (λ k. let e = carries_label c σ m k.0 k.1 in
        omega (arith, s.1, ap (λ (l : Label). l.channel) e, channel_lt c ranges k.0 k.1.known (λ z. omega (arith, s.0, ap (λ (l : Label). l.signal) e))))
        (λ k. absurd (omega (arith, s.0, k.1)))
        (active_carries m h a)

    -- so every edge of a move carries a transition
    pub move_carries : (ms : List ℕ) → ((m : ℕ) → Mem m ms → m < length (flatten c).edges) → ((m : ℕ) → Mem m ms → active_edge (flatten c) (picture c σ) (edge_at (flatten c) m) ≡ true) → Move (flatten c) (picture c σ) ms
        → (m : ℕ) → Mem m ms → (t : ℕ) × Carries c σ m t
    move_carries ms known active move m k = ⊎_elim (λ r. r)
        (λ r. absurd (⊎_elim
        (λ a. omega (arith, r.1, ap (λ (x : ℕ). (edge_at (flatten c) x).label.signal) (a.only m k), a.silent))
        (λ j. ⊎_elim
        (λ e. omega (arith, r.1, ap (λ (x : ℕ). (edge_at (flatten c) x).label.signal) e, j.signalled.sent.0))
        (λ h. omega (arith, r.2, h.1, sender_channel j.sender j.channel (known j.sender j.signalled.is_member) (active j.sender j.signalled.is_member) j.signalled.sent))
        (j.signalled.others m k))
        move.signals))
        (active_carries m (known m k) (active m k))

    -- the edges and the transitions that they carry correspond
    not_none : (t : ℕ) → t < length c.transitions → t ≢ 255
    not_none t h e = omega (arith, ranges.transitions_few)

    pub carried_matches : (ms : List ℕ) → ascending ms ≡ true → ((m : ℕ) → Mem m ms → (t : ℕ) × Carries c σ m t) → Matched (Carries c σ) ms (carried (flatten c) ms)
    carried_matches ms o f = matched_by (Carries c σ) ms (carried (flatten c) ms) (λ m. (edge_at (flatten c) m).transition) (ascending_once ms o) (ascending_once _ (carried_ascends c ms))
        (λ m k. let r = own m k in (carried_by_lem c ms k (not_none _ r.known), r))
        (λ t k. carried_at c ms k)
        (λ m t k. carries_transition c σ m t k)
        (λ m k p q e. carries_one m k _ (own m p) (subst (Carries c σ k) (sym e) (own k q)))
      where
        own : (m : ℕ) → Mem m ms → Carries c σ m (edge_at (flatten c) m).transition
        own m k = let r = f m k in subst (Carries c σ m) (sym (carries_transition c σ m r.0 r.1)) r.1

    carries_corresponds : Corresponds (Carries c σ) (λ m. (edge_at (flatten c) m).label) (λ m. owner_of (flatten c) (edge_at (flatten c) m)) (λ t. (transition_at c t).label) (home c)
    carries_corresponds = record {
      labels = carries_label c σ;
      owners = λ m k t u a b e. automaton_injective c (ends c passed ranges t a.known).region (ends c passed ranges u b.known).region (sym (carries_owner m t a) ∙ e ∙ carries_owner k u b);
      owners_back = λ m k t u a b e. carries_owner m t a ∙ ap (automaton c) e ∙ sym (carries_owner k u b);
    }

    -- they are allowed alike
    pub carried_allowed : (ms ts : List ℕ) → Matched (Carries c σ) ms ts
        → allowed (λ m. (edge_at (flatten c) m).label) (λ m. owner_of (flatten c) (edge_at (flatten c) m)) (λ m. active_edge (flatten c) (picture c σ) (edge_at (flatten c) m)) (length (flatten c).edges) (flatten c).rendezvous ms
        ≡ allowed (λ t. (transition_at c t).label) (home c) (λ t. active_transition c σ (transition_at c t)) (length c.transitions) c.rendezvous ts
    unfolding flatten
    carried_allowed ms ts w = allowed_alike (Carries c σ) _ _ _ _ _ _ _ _ c.rendezvous ms ts carries_corresponds w
        (λ m ch k p s h r a. ⊎_elim
        (λ u. (u.0, u.1.known, u.1.is_active_lem, u.1))
        (λ u. let x = w.right m p in absurd (omega (arith, u.2, r.1, sender_channel m ch x.2.edge_known (carries_active m x.0 x.2) s)))
        (active_carries k h a))
        (λ t ch u p s h r a. let x = carrier_of u h a in (x.0, x.1.edge_known, carries_active x.0 u x.1, x.1))

    -- the edges that carry the transitions of a list
    abbrev pub carriers : List ℕ → List ℕ
    carriers ts = keep (λ m. active_edge (flatten c) (picture c σ) (edge_at (flatten c) m) && elem (edge_at (flatten c) m).transition ts) (below (length (flatten c).edges))

    module _ (ts : List ℕ) (ascends : ascending ts ≡ true) (known : (t : ℕ) → Mem t ts → t < length c.transitions) (active : (t : ℕ) → Mem t ts → active_transition c σ (transition_at c t) ≡ true) where
      carriers_carry : (m : ℕ) → Mem m (carriers ts) → (t : ℕ) × Carries c σ m t × Mem t ts
      carriers_carry m k =
          let r = passing_at _ _ k in
          let a = and_l (active_edge (flatten c) (picture c σ) (edge_at (flatten c) m)) _ r.1 in
          let i = elem_at (edge_at (flatten c) m).transition ts (and_r (active_edge (flatten c) (picture c σ) (edge_at (flatten c) m)) _ r.1) in
          ⊎_elim (λ x. (x.0, x.1, cast (sym (carries_transition c σ m x.0 x.1)) i)) (λ x. absurd (not_none _ (known _ i) x.0)) (active_carries m r.0 a)

      carriers_by : (t : ℕ) → Mem t ts → (m : ℕ) × Mem m (carriers ts) × Carries c σ m t
      carriers_by t k =
          let r = carrier_of t (known t k) (active t k) in
          (r.0, passing_by _ _ r.1.edge_known (both (carries_active r.0 t r.1) (elem_by _ (cast (carries_transition c σ r.0 t r.1) k))), r.1)

      -- carry just these
      pub carriers_ascend : ascending (carriers ts) ≡ true
      carriers_ascend = passing_ascending _ _

      pub carried_carriers : carried (flatten c) (carriers ts) ≡ ts
      carried_carriers = ascending_same _ ts (carried_ascends c (carriers ts)) ascends
          (λ t k. let r = carried_at c (carriers ts) k in let x = carriers_carry r.0 r.1 in cast (sym r.2 ∙ carries_transition c σ r.0 x.0 x.1) x.2)
          (λ t k. let r = carriers_by t k in
          let e = carries_transition c σ r.0 t r.2 in
          cast (sym e) (carried_by_lem c (carriers ts) r.1 (λ z. not_none t (known t k) (sym e ∙ z))))

      pub carriers_match : Matched (Carries c σ) (carriers ts) ts
      carriers_match = subst (Matched (Carries c σ) (carriers ts)) carried_carriers (carried_matches (carriers ts) carriers_ascend (λ m k. let x = carriers_carry m k in (x.0, x.1)))
