-- The move of a pending transition at post: it leaves its source. Its automaton goes to the arrival; those of states at or below
-- the source that are not idle hear the exit, and become idle. Then the entry is owed, if it has one, and else nothing.
use mathlib.Core.Path.{◌≡◌, refl, sym, ap, ap₂, ◌∙◌, subst}
use mathlib.Core.Bool.{true, false, cond}
use mathlib.Core.Logic.{inl, inr, ⊎_elim, ◌≢◌}
use mathlib.Core.List.{List, ◌∷◌, Memᴰ as Mem}
use Prim.Native.Nat.{ℕ, ◌<◌}
use native.Mathlib.Omega.{arith}
use native.Mathlib.Decide.{ℕ_discrete}
use borrow.Author.Tests.{eq-eqb, ne_eqb}
use lib.Dec.{eqb}
use Rattle.clocks.specs.Clocks.{keeps}
use Rattle.lists.proofs.Bools.{clash, decided, fails, cond_yes, cond_no}
use Rattle.clocks.proofs.Rows.{ClockValues, keeps_free}
use Rattle.chart_records.specs.Chart.{Chart, transition_at, parent_of, home}
use Rattle.chart_records.specs.Tree.{under}
use Rattle.chart_moves.specs.Machine.{is_tree}
use Rattle.chart_records.proofs.Tree.{size}
use Rattle.chart_records.proofs.Rules.{Passed}
use Rattle.chart_records.proofs.Ranges.{Ranges}
use Rattle.chart_rules.proofs.TransitionRules.{channel_lt}
use Rattle.network_records.specs.Network.{Edge}
use Rattle.flattening.specs.Flatten.{Pair, Place, idle, child, pre, post, place_home, arrival, departure, bounds_of, has_exit, has_entry, exit_pairs, exit_channel, signalling, edge, own_edge}
use Rattle.flattening.proofs.Automata.{Region}
use Rattle.flattening.proofs.Numbers.{PlaceOf}
use Rattle.flattening.proofs.Channels.{exit_channel_ge, exit_channel_injective, enter_exit_apart, heard_entries_at, heard_exits_at, heard_exits_by}
use Rattle.flattening.proofs.Arrivals.{exit_pair_lem}
use Rattle.flattening.proofs.Edges.{Leaves}
use Rattle.flattening.proofs.Bounds.{departure_arrives}
use Rattle.agreement.specs.Agreement.{ChartConfiguration}
use Rattle.agreement.proofs.Relation.{Pending, owes_all, Concerns, IsPending, Placed}
use Rattle.labels.proofs.Labels.{Receives}
use Rattle.agreement.proofs.Broadcast.{Broadcast}
use Rattle.agreement.proofs.Pending.{pending_ends, concerns_not_home, home_leaving, home_place, pictured_home, pictured_left, not_entered, placed_fits}
use Rattle.agreement.proofs.Paying.{Without, without, owes_both, owes_exit, owes_entry, placed_rest, placed_next, Payment}

-- where the automata are after it
left_places : Chart → (ℕ → Place) → ℕ → ℕ → Place
left_places c f t q = cond (eqb q (home c t)) (arrival c t) (cond (under c (transition_at c t).source q) (idle q) (f q))

abbrev exit_pair : Chart → ℕ → Pair
exit_pair c t = record { state = (transition_at c t).source; mark = (transition_at c t).exit }

module _ (c : Chart) (f : ℕ → Place) (t : ℕ) where
  left_home : left_places c f t (home c t) ≡ arrival c t
  unfolding left_places
  left_home = cond_yes _ _ (eq-eqb (home c t) (home c t) refl)

  left_below : (q : ℕ) → q ≢ home c t → under c (transition_at c t).source q ≡ true → left_places c f t q ≡ idle q
  unfolding left_places
  left_below q d u = cond_no _ _ (ne_eqb q (home c t) d) ∙ cond_yes _ _ u

  left_other : (q : ℕ) → q ≢ home c t → under c (transition_at c t).source q ≡ false → left_places c f t q ≡ f q
  unfolding left_places
  left_other q d u = cond_no _ _ (ne_eqb q (home c t) d) ∙ cond_no _ _ u

module _ (c : Chart) (passed : Passed c) (ranges : Ranges c) (σ : ChartConfiguration) (tree : is_tree c σ ≡ true) (values : ClockValues σ.clocks) (f : ℕ → Place) (ps : List Pending)
    (placed : Placed c σ f ps) (p : Pending) (member : Mem p ps) (leaving : p.leaving ≡ true) where
  abbrev t : ℕ
  t = p.transition

  abbrev source : ℕ
  source = (transition_at c t).source

  abbrev g : ℕ → Place
  g = left_places c f t

  abbrev channel : ℕ
  channel = exit_channel c (exit_pair c t)

  abbrev k : IsPending c σ f p
  k = placed.each p member

  has_exit_lem : has_exit c t ≡ true
  has_exit_lem = k.leaves leaving

  at_post : f (home c t) ≡ post t
  at_post = home_leaving c passed ranges σ tree f p k leaving

  pair_known : Mem (exit_pair c t) (exit_pairs c)
  pair_known = exit_pair_lem c passed ranges t k.known has_exit_lem

  below_not_home : (q : ℕ) → q < size c → Concerns c p q → q ≢ home c t
  below_not_home = concerns_not_home c passed ranges σ tree f p k

  -- the automata of states that the transition concerns are idle then
  left_idle : (q : ℕ) → Region c q → Concerns c p q → g q ≡ idle q
  left_idle q z w = let d = below_not_home q z.known w in ⊎_elim (λ u. left_below c f t q d u)
      (λ u. left_other c f t q d u ∙ ⊎_elim (λ e. e) (λ h. clash h.below_source u) (k.below_at q z w)) (decided (under c source q))

  -- the edges that leave where f has an automaton and receive the exit
  heard_exit : (q : ℕ) → Region c q → (x : Place) → PlaceOf c q x → (e : Edge) → Leaves c x e → Receives e.label channel → e ≡ own_edge c x (g q) (signalling 2 channel)
  unfolding edge own_edge signalling place_home
  heard_exit q z (idle r) n e l h = absurd (enter_exit_apart c (exit_pair c t) (heard_entries_at c l.to l.heard).0 (sym (ap (λ (x : Edge). x.label.channel) l.edge_is) ∙ h.1))
  heard_exit q z (child s) n e l h = ⊎_elim
      (λ j. let heard = heard_exits_at c s j.heard in
      let same : j.pair ≡ exit_pair c t = exit_channel_injective c heard.0 pair_known (sym (ap (λ (x : Edge). x.label.channel) j.edge_is) ∙ h.1) in
      let at : parent_of c s ≡ q = n.home_is in
      let below : under c source q ≡ true = ap (under c source) (sym at) ∙ sym (ap (λ (x : Pair). under c x.state (parent_of c s)) same) ∙ heard.1 in
      j.edge_is ∙ ap₂ (λ (x : Place) (y : Pair). own_edge c (child s) x (signalling 2 (exit_channel c y))) (ap idle at ∙ sym (left_below c f t q (below_not_home q z.known (inl below)) below)) same)
      (λ j. absurd (let label = ap (λ (x : Edge). x.label) j.bears.edge_is in
      let s : (transition_at c j.transition).label.signal ≡ 2 = sym (ap (λ x. x.signal) label) ∙ h.0 in
      omega (arith, channel_lt c ranges j.transition j.known (omega arith), sym (ap (λ x. x.channel) label) ∙ h.1, exit_channel_ge c (exit_pair c t))))
      l
  heard_exit q z (pre r) n e l h = absurd (let s : e.label.signal ≡ 1 = ap (λ (x : Edge). x.label.signal) l in omega (arith, h.0))
  heard_exit q z (post u) n e l h = absurd (let s : e.label.signal ≡ 1 = ap (λ (x : Edge). x.label.signal) l in omega (arith, h.0))

  leave_broadcast : Broadcast c f g (home c t) channel
  leave_broadcast = record {
    region = (pending_ends c passed ranges σ tree f p k).region;
    is_urgent_lem = (home_place c passed ranges σ tree f p k).1;
    is_broadcast = omega (arith, exit_channel_ge c (exit_pair c t));
    sent_by = subst (λ (x : Place). Leaves c x (own_edge c x (g (home c t)) (signalling 1 channel))) (sym at_post) (ap (λ (y : Place). own_edge c (post t) y (signalling 1 channel)) (left_home c f t));
    sent_at = λ e l. subst (λ (x : Place). Leaves c x e) at_post l ∙ ap₂ (λ (x y : Place). own_edge c x y (signalling 1 channel)) (sym at_post) (sym (left_home c f t));
    heard_at = λ q z e l h. heard_exit q z (f q) (placed_fits c passed ranges σ tree f ps placed q z) e l h;
    heard_by = λ q z d. ⊎_elim
        (λ u. ⊎_elim
        (λ e. inl (left_below c f t q d u ∙ sym e))
        (λ h. inr (subst (λ (x : Place). Leaves c x (own_edge c x (g q) (signalling 2 channel))) (sym h.stands) (inl (record {
          pair = exit_pair c t;
          heard = heard_exits_by c h.at pair_known (ap (under c source) h.is_child_lem.parent_is ∙ u) h.hears;
          edge_is = ap (λ (y : Place). own_edge c (child h.at) y (signalling 2 channel)) (left_below c f t q d u ∙ ap idle (sym h.is_child_lem.parent_is));
        }))))
        (k.below_at q z (inl u)))
        (λ u. inl (left_other c f t q d u))
        (decided (under c source q));
  }

  elsewhere : (q : ℕ) → Region c q → q ≢ home c t → (Concerns c p q → ⊥) → g q ≡ f q
  elsewhere q z d n = left_other c f t q d (fails (under c source q) (λ u. n (inl u)))

  -- bounds: those of the arrival are those of post; idle has none
  leave_bounds : ((q : ℕ) → Region c q → keeps (bounds_of c (f q)) σ.clocks ≡ true) → (q : ℕ) → Region c q → keeps (bounds_of c (g q)) σ.clocks ≡ true
  unfolding bounds_of departure
  leave_bounds h q z = elim (ℕ_discrete q (home c t)) [
    | yes e ↦ ap (λ (x : Place). keeps (bounds_of c x) σ.clocks) (ap g e ∙ left_home c f t)
        ∙ ap (λ (r : List ℕ). keeps r σ.clocks) (sym (departure_arrives c t)) ∙ ap (λ (x : Place). keeps (bounds_of c x) σ.clocks) (cond_yes _ _ has_exit_lem ∙ sym at_post ∙ ap f (sym e)) ∙ h q z
    | no d ↦ ⊎_elim
        (λ u. ap (λ (x : Place). keeps (bounds_of c x) σ.clocks) (left_below c f t q d u) ∙ keeps_free σ.clocks values)
        (λ u. ap (λ (x : Place). keeps (bounds_of c x) σ.clocks) (left_other c f t q d u) ∙ h q z)
        (decided (under c source q))
  ]

  abbrev rest : Without c ps p
  rest = without c ps placed.once member

  -- without an entry that was all
  leave_last : has_entry c t ≡ false → Payment c σ f ps (home c t)
  unfolding arrival
  leave_last none = record {
    places = g;
    channel = channel;
    pending = rest.rest;
    broadcast = leave_broadcast;
    placed = placed_rest c passed ranges σ tree f g ps placed p member elsewhere
        (left_home c f t ∙ cond_no _ _ none ∙ sym (pictured_home c passed ranges σ tree f p k))
        (λ q z w. left_idle q z w ∙ sym (pictured_left c passed ranges σ tree f p k q z w (not_entered c passed ranges σ tree f p k none q z)));
    pays = omega (arith, rest.owes_is, owes_exit c p leaving none);
    bounds = leave_bounds;
  }

  -- with one, it is to come
  leave_next : has_entry c t ≡ true → Payment c σ f ps (home c t)
  unfolding owes_all arrival
  leave_next some = record {
    places = g;
    channel = channel;
    pending = record { transition = t; leaving = false } ∷ rest.rest;
    broadcast = leave_broadcast;
    placed = placed_next c passed ranges σ tree f g ps placed p member elsewhere (record { transition = t; leaving = false }) refl (record {
      known = k.known;
      leaves = λ e. clash e refl;
      enters = λ e. some;
      arrived = k.arrived;
      home_at = left_home c f t ∙ cond_yes _ _ some;
      below_at = λ q z w. inl (left_idle q z w);
    });
    pays = omega (arith, rest.owes_is, owes_both c p leaving some, owes_entry c (record { transition = t; leaving = false }) refl);
    bounds = leave_bounds;
  }

  pub leave_pays : Payment c σ f ps (home c t)
  leave_pays = ⊎_elim leave_next leave_last (decided (has_entry c t))
