-- The move of a pending transition at pre: it enters its destination. Its automaton goes there; those of the states that are
-- entered hear the entry, and go to the child that is marked with it. Then it owes nothing.
use mathlib.Core.Path.{◌≡◌, refl, sym, ap, ap₂, ◌∙◌, subst}
use mathlib.Core.Bool.{true, false, cond}
use mathlib.Core.Logic.{inl, inr, ⊎_elim, ◌≢◌}
use mathlib.Core.List.{List, Memᴰ as Mem}
use Prim.Native.Nat.{ℕ, ◌<◌}
use native.Mathlib.Omega.{arith}
use native.Mathlib.Decide.{ℕ_discrete}
use borrow.Author.Tests.{eq-eqb, ne_eqb}
use lib.Dec.{eqb}
use Rattle.lists.specs.Lists.{has}
use Rattle.clocks.specs.Clocks.{keeps}
use Rattle.lists.proofs.Bools.{clash, decided, fails, cond_yes, cond_no}
use Rattle.clocks.proofs.Rows.{ClockValues}
use Rattle.chart_records.specs.Chart.{Chart, transition_at, state_at, parent_of, home}
use Rattle.chart_records.specs.Tree.{entered}
use Rattle.chart_moves.specs.Machine.{is_tree}
use Rattle.chart_records.proofs.Tree.{size}
use Rattle.chart_records.proofs.Entered.{entered_top, entered_under, all_entered_at}
use Rattle.chart_records.proofs.Rules.{Passed}
use Rattle.chart_records.proofs.Ranges.{Ranges}
use Rattle.chart_rules.proofs.TransitionRules.{channel_lt}
use Rattle.network_records.specs.Network.{Edge}
use Rattle.flattening.specs.Flatten.{Pair, Place, idle, child, pre, post, place_home, joined, bounds_of, has_entry, marked_child, enter_pairs, enter_channel, signalling, edge, own_edge}
use Rattle.flattening.proofs.Automata.{Region}
use Rattle.flattening.proofs.Numbers.{PlaceOf}
use Rattle.flattening.proofs.Channels.{enter_channel_ge, enter_channel_injective, enter_exit_apart, heard_entries_at, heard_entries_by}
use Rattle.flattening.proofs.Arrivals.{Ends, enter_pair}
use Rattle.flattening.proofs.Edges.{Leaves}
use Rattle.flattening.proofs.Bounds.{keeps_pre}
use Rattle.agreement.specs.Agreement.{ChartConfiguration}
use Rattle.agreement.proofs.Relation.{Pending, entry_pair, Concerns, IsPending, Placed}
use Rattle.labels.proofs.Labels.{Receives}
use Rattle.agreement.proofs.Broadcast.{Broadcast}
use Rattle.agreement.proofs.Pending.{pending_ends, pending_entry, concerns_not_home, home_entering, home_place, pictured_home, pictured_left, pictured_entered, marked, marked_entered, placed_fits}
use Rattle.agreement.proofs.Paying.{Without, without, owes_entry, placed_rest, Payment}

-- where the automata are after it
entered_places : Chart → (ℕ → Place) → ℕ → ℕ → Place
entered_places c f t q = cond (eqb q (home c t)) (child (transition_at c t).destination) (cond (entered c (transition_at c t).destination (transition_at c t).entry q) (child (marked_child c q (transition_at c t).entry)) (f q))

module _ (c : Chart) (f : ℕ → Place) (t : ℕ) where
  entered_home : entered_places c f t (home c t) ≡ child (transition_at c t).destination
  unfolding entered_places
  entered_home = cond_yes _ _ (eq-eqb (home c t) (home c t) refl)

  entered_below : (q : ℕ) → q ≢ home c t → entered c (transition_at c t).destination (transition_at c t).entry q ≡ true → entered_places c f t q ≡ child (marked_child c q (transition_at c t).entry)
  unfolding entered_places
  entered_below q d a = cond_no _ _ (ne_eqb q (home c t) d) ∙ cond_yes _ _ a

  entered_other : (q : ℕ) → q ≢ home c t → entered c (transition_at c t).destination (transition_at c t).entry q ≡ false → entered_places c f t q ≡ f q
  unfolding entered_places
  entered_other q d a = cond_no _ _ (ne_eqb q (home c t) d) ∙ cond_no _ _ a

module _ (c : Chart) (passed : Passed c) (ranges : Ranges c) (σ : ChartConfiguration) (tree : is_tree c σ ≡ true) (values : ClockValues σ.clocks) (f : ℕ → Place) (ps : List Pending)
    (placed : Placed c σ f ps) (p : Pending) (member : Mem p ps) (entering : p.leaving ≡ false) where
  abbrev t : ℕ
  t = p.transition

  abbrev destination : ℕ
  destination = (transition_at c t).destination

  abbrev entry : ℕ
  entry = (transition_at c t).entry

  abbrev g : ℕ → Place
  g = entered_places c f t

  abbrev channel : ℕ
  channel = enter_channel c (entry_pair c t)

  abbrev k : IsPending c σ f p
  k = placed.each p member

  has_entry_lem : has_entry c t ≡ true
  has_entry_lem = k.enters entering

  at_pre : f (home c t) ≡ pre (entry_pair c t)
  at_pre = home_entering c passed ranges σ tree f p k entering

  pair_known : Mem (entry_pair c t) (enter_pairs c)
  pair_known = enter_pair c passed ranges t k.known has_entry_lem

  -- what is entered lies below the destination
  entered_concerns : (q : ℕ) → entered c destination entry q ≡ true → Concerns c p q
  entered_concerns q a = inr (entered_under c passed.tree passed.entry_marks_lem destination (pending_ends c passed ranges σ tree f p k).to.known q (pending_entry c passed ranges σ tree f p k) a)

  below_not_home : (q : ℕ) → q < size c → Concerns c p q → q ≢ home c t
  below_not_home = concerns_not_home c passed ranges σ tree f p k

  -- the automata of states that the transition concerns are idle till then
  entering_idle : (q : ℕ) → Region c q → Concerns c p q → f q ≡ idle q
  entering_idle q z w = ⊎_elim (λ e. e) (λ h. clash h.still entering) (k.below_at q z w)

  -- the edges that leave where f has an automaton and receive the entry
  heard_entry : (q : ℕ) → Region c q → (x : Place) → PlaceOf c q x → (e : Edge) → Leaves c x e → Receives e.label channel → e ≡ own_edge c x (g q) (signalling 2 channel)
  unfolding edge own_edge signalling place_home
  heard_entry q z (idle r) n e l h =
      let heard = heard_entries_at c l.to l.heard in
      let same : l.pair ≡ entry_pair c t = enter_channel_injective c heard.0 pair_known (sym (ap (λ (x : Edge). x.label.channel) l.edge_is) ∙ h.1) in
      let at : parent_of c l.to ≡ q = l.is_child_lem.parent_is ∙ n.home_is in
      let a : entered c destination entry q ≡ true = ap (entered c destination entry) (sym at) ∙ sym (ap (λ (x : Pair). entered c x.state x.mark (parent_of c l.to)) same) ∙ heard.1 in
      let to : l.to ≡ marked_child c q entry = (marked c passed ranges σ tree f p k has_entry_lem q z a).2 l.to (record { known = l.is_child_lem.known; below_root = l.is_child_lem.below_root; parent_is = at })
      (sym (ap (λ (x : Pair). has (state_at c l.to).entries x.mark) same) ∙ heard.2) in
      l.edge_is ∙ ap₂ (λ (x : Place) (y : Pair). own_edge c (idle r) x (signalling 2 (enter_channel c y))) (ap child to ∙ sym (entered_below c f t q (below_not_home q z.known (entered_concerns q a)) a)) same
  heard_entry q z (child s) n e l h = absurd (⊎_elim
      (λ j. enter_exit_apart c j.pair pair_known (sym h.1 ∙ ap (λ (x : Edge). x.label.channel) j.edge_is))
      (λ j. let label = ap (λ (x : Edge). x.label) j.bears.edge_is in
      let s : (transition_at c j.transition).label.signal ≡ 2 = sym (ap (λ x. x.signal) label) ∙ h.0 in
      omega (arith, channel_lt c ranges j.transition j.known (omega arith), sym (ap (λ x. x.channel) label) ∙ h.1, enter_channel_ge c (entry_pair c t)))
      l)
  heard_entry q z (pre r) n e l h = absurd (let s : e.label.signal ≡ 1 = ap (λ (x : Edge). x.label.signal) l in omega (arith, h.0))
  heard_entry q z (post u) n e l h = absurd (let s : e.label.signal ≡ 1 = ap (λ (x : Edge). x.label.signal) l in omega (arith, h.0))

  enter_broadcast : Broadcast c f g (home c t) channel
  enter_broadcast = record {
    region = (pending_ends c passed ranges σ tree f p k).region;
    is_urgent_lem = (home_place c passed ranges σ tree f p k).1;
    is_broadcast = omega (arith, enter_channel_ge c (entry_pair c t));
    sent_by = subst (λ (x : Place). Leaves c x (own_edge c x (g (home c t)) (signalling 1 channel))) (sym at_pre) (ap (λ (y : Place). own_edge c (pre (entry_pair c t)) y (signalling 1 channel)) (entered_home c f t));
    sent_at = λ e l. subst (λ (x : Place). Leaves c x e) at_pre l ∙ ap₂ (λ (x y : Place). own_edge c x y (signalling 1 channel)) (sym at_pre) (sym (entered_home c f t));
    heard_at = λ q z e l h. heard_entry q z (f q) (placed_fits c passed ranges σ tree f ps placed q z) e l h;
    heard_by = λ q z d. ⊎_elim
        (λ a. let m = marked c passed ranges σ tree f p k has_entry_lem q z a in
        inr (subst (λ (x : Place). Leaves c x (own_edge c x (g q) (signalling 2 channel))) (sym (entering_idle q z (entered_concerns q a))) (record {
          to = marked_child c q entry;
          pair = entry_pair c t;
          is_child_lem = m.0;
          heard = heard_entries_by c (marked_child c q entry) pair_known (ap (entered c destination entry) m.0.parent_is ∙ a) m.1;
          edge_is = ap (λ (y : Place). own_edge c (idle q) y (signalling 2 channel)) (entered_below c f t q d a);
        })))
        (λ a. inl (entered_other c f t q d a))
        (decided (entered c destination entry q));
  }

  elsewhere : (q : ℕ) → Region c q → q ≢ home c t → (Concerns c p q → ⊥) → g q ≡ f q
  elsewhere q z d n = entered_other c f t q d (fails (entered c destination entry q) (λ a. n (entered_concerns q a)))

  -- bounds: those of pre are the joined ones of every state that is entered
  enter_bounds : ((q : ℕ) → Region c q → keeps (bounds_of c (f q)) σ.clocks ≡ true) → (q : ℕ) → Region c q → keeps (bounds_of c (g q)) σ.clocks ≡ true
  unfolding bounds_of
  enter_bounds h q z = elim (ℕ_discrete q (home c t)) [
    | yes e ↦ ap (λ (x : Place). keeps (bounds_of c x) σ.clocks) (ap g e ∙ entered_home c f t)
        ∙ joined_kept destination n.to.known (entered_top c passed.tree passed.entry_marks_lem destination n.to.known (pending_entry c passed ranges σ tree f p k))
    | no d ↦ ⊎_elim
        (λ a. ap (λ (x : Place). keeps (bounds_of c x) σ.clocks) (entered_below c f t q d a)
        ∙ joined_kept (marked_child c q entry) (marked c passed ranges σ tree f p k has_entry_lem q z a).0.known (marked_entered c passed ranges σ tree f p k has_entry_lem q z a))
        (λ a. ap (λ (x : Place). keeps (bounds_of c x) σ.clocks) (entered_other c f t q d a) ∙ h q z)
        (decided (entered c destination entry q))
  ]
    where
      n : Ends c t
      n = pending_ends c passed ranges σ tree f p k

      joined_kept : (s : ℕ) → s < size c → entered c destination entry s ≡ true → keeps (joined c s) σ.clocks ≡ true
      joined_kept = all_entered_at c destination entry (λ s. keeps (joined c s) σ.clocks)
          (sym (keeps_pre c ranges σ.clocks values (entry_pair c t)) ∙ ap (λ (x : Place). keeps (bounds_of c x) σ.clocks) (sym at_pre) ∙ h (home c t) n.region)

  abbrev rest : Without c ps p
  rest = without c ps placed.once member

  pub enter_pays : Payment c σ f ps (home c t)
  enter_pays = record {
    places = g;
    channel = channel;
    pending = rest.rest;
    broadcast = enter_broadcast;
    placed = placed_rest c passed ranges σ tree f g ps placed p member elsewhere
        (entered_home c f t ∙ sym (pictured_home c passed ranges σ tree f p k))
        (λ q z w. let d = below_not_home q z.known w in ⊎_elim
        (λ a. entered_below c f t q d a ∙ sym (pictured_entered c passed ranges σ tree f p k has_entry_lem q z a))
        (λ a. entered_other c f t q d a ∙ entering_idle q z w ∙ sym (pictured_left c passed ranges σ tree f p k q z w a))
        (decided (entered c destination entry q)));
    pays = omega (arith, rest.owes_is, owes_entry c p entering);
    bounds = enter_bounds;
  }
