-- Active transitions and active edges. In the picture of a configuration an edge is active, just if it bears an active
-- transition and tests where its automata stand (`carrier`), or if it hears an enter or exit channel.
use mathlib.Core.Path.{◌≡◌, refl, sym, ap, ◌∙◌}
use mathlib.Core.Bool.{Bool, true, false, cond, not, ◌&&◌, xor, beq}
use mathlib.Core.Logic.{◌⊎◌, inl, inr, ⊎_elim}
use mathlib.Core.List.Memᴰ.{cast}
use mathlib.Core.List.{Memᴰ as Mem}
use Prim.Native.Nat.{ℕ, ◌+◌, ◌≤◌, ◌<◌}
use native.Mathlib.Omega.{arith}
use native.Mathlib.Decide.{ℕ_discrete, dec_lt}
use borrow.Author.Tests.{ne_eqb, ltb-true}
use lib.Dec.{ltb}
use lib.ListN.{length, get_or}
use Rattle.lists.specs.Lists.{has}
use Rattle.labels.specs.Label.{Label, guards_hold}
use Rattle.lists.proofs.Bools.{clash, decided, and_l, and_r, both, or_l, or_r, or_else, implies_at, implies_by, cond_yes, cond_no}
use Rattle.lists.proofs.Below.{all_below, below_all}
use Rattle.lists.proofs.Bits.{has_zero, has_bits, has_bits_of, has_high}
use Rattle.chart_records.specs.Chart.{Chart, transition_at, parent_of, basic, home}
use Rattle.chart_records.specs.Tree.{under, sequentials}
use Rattle.chart_moves.specs.Machine.{is_active, is_tree, completed, active_transition}
use Rattle.chart_records.proofs.Rules.{Passed}
use Rattle.chart_records.proofs.Ranges.{Ranges}
use Rattle.network_records.specs.Network.{Edge}
use Rattle.network_moves.specs.Machine.{flags_agree, active_edge}
use Rattle.flattening.specs.Flatten.{Place, idle, child, pre, post, same_place, place_home, has_exit, at_exit, initial_place, flag_at, on_values, alternatives, enter_channel, exit_channel, signalling, edge, exit_tested, own_edge, departure, urgent_place, flatten}
use Rattle.flattening.specs.Picture.{pictured, picture}
use Rattle.flattening.proofs.Automata.{region_at, region_at_lem, automaton_of_region}
use Rattle.flattening.proofs.Alternatives.{is_at, at_set, alternative_of_completed, completed_of_alternative}
use Rattle.flattening.proofs.Numbers.{IsPlace, same_place_at, same_place_by}
use Rattle.flattening.proofs.Channels.{enter_channel_ge, exit_channel_ge}
use Rattle.flattening.proofs.Arrivals.{ends, source_composite, source_basic, exit_lt, source_place}
use Rattle.flattening.proofs.Edges.{Bears, tested_some, tested_none, Leaves, edges_at, edges_by}
use Rattle.flattening.proofs.Pictured.{pictured_not_urgent, pictured_child, pictured_fits, active_of_pictured, at_exit_pictured}
use Rattle.flattening.proofs.Printable.{alternative_lt}
use Rattle.agreement.specs.Agreement.{ChartConfiguration, NetworkConfiguration}
use Rattle.agreement.proofs.Relation.{standing}
use Rattle.agreement.proofs.Standing.{picture_stands, flag_standing, active_standing}

-- the edge that bears t when it is active in σ: it tests the automata that are at the exit
abbrev pub tested_by : Chart → ChartConfiguration → ℕ → ℕ
tested_by c σ t = cond (has_exit c t) (at_set c σ (transition_at c t).source (transition_at c t).exit) 0

abbrev pub exit_by : Chart → ChartConfiguration → ℕ → ℕ
exit_by c σ t = exit_tested (tested_by c σ t) (transition_at c t).exit

unfoldable pub carrier : Chart → ChartConfiguration → ℕ → Edge
carrier c σ t = edge c (child (transition_at c t).source) (departure c t) t (exit_by c σ t) (tested_by c σ t) (transition_at c t).label

bears_label : (c : Chart) (t : ℕ) (r : Place) (e : Edge) → Bears c t r e → e.label ≡ (transition_at c t).label
unfolding edge
bears_label c t r e b = ap (λ (x : Edge). x.label) b.edge_is

-- a flag says "at", just if it has the value that means so
says_at : (initial now : Bool) → beq (xor initial now) (not initial) ≡ now
unfolding xor
says_at true true = refl
says_at true false = refl
says_at false true = refl
says_at false false = refl

module _ (c : Chart) (passed : Passed c) (ranges : Ranges c) where
  module _ (σ : ChartConfiguration) (tree : is_tree c σ ≡ true) where
    -- the flag of one automaton of a set
    flag_says : (p r : Place) (t e x : ℕ) (l : Label) → e < 8 → (a : ℕ) → a < length (sequentials c) → has x a ≡ true
        → beq (has (get_or (picture c σ).flags a 0) e) (has (edge c p r t e x l).needed a) ≡ is_at c σ e (region_at c a)
    unfolding edge on_values flag_at
    flag_says p r t e x l small a h i =
        let g = region_at_lem c a h in
        let now = at_exit c (pictured c σ (region_at c a)) e in
        let first = at_exit c (initial_place c (region_at c a)) e in
        let left : has (get_or (picture c σ).flags a 0) e ≡ xor first now =
        ap (λ (ν : NetworkConfiguration). has (get_or ν.flags a 0) e) (picture_stands c σ)
        ∙ ap (λ (b : ℕ). has (get_or (standing c (pictured c σ) σ.variables σ.clocks).flags b 0) e) (sym (automaton_of_region c a h))
        ∙ ap (λ (b : ℕ). has b e) (flag_standing c passed (pictured c σ) σ.variables σ.clocks g)
        ∙ has_bits_of _ 8 e small in
        let right : has (edge c p r t e x l).needed a ≡ not first =
        ap (λ (b : ℕ). has b a) (cond_no 0 (on_values c e x) (ne_eqb e 255 (omega arith)))
        ∙ has_bits_of _ 16 a (omega (arith, passed.at_most)) ∙ ap (λ (b : Bool). b && not first) i in
        ap (λ (b : Bool). beq b (has (edge c p r t e x l).needed a)) left ∙ ap (beq (xor first now)) right ∙ says_at first now ∙ at_exit_pictured c σ tree e g

    -- an edge's flags agree, just if each automaton that it tests is at the exit
    flags_agree_at : (p r : Place) (t e x : ℕ) (l : Label) → e < 8 → flags_agree (picture c σ) (edge c p r t e x l) ≡ true
        → (a : ℕ) → a < length (sequentials c) → has x a ≡ true → is_at c σ e (region_at c a) ≡ true
    unfolding flags_agree edge
    flags_agree_at p r t e x l small k a h i = sym (flag_says p r t e x l small a h i) ∙ implies_at (has x a) _ (all_below _ 16 k a (omega (arith, passed.at_most))) i

    flags_agree_by : (p r : Place) (t e x : ℕ) (l : Label) → e < 8 → ((a : ℕ) → has x a ≡ true → (a < length (sequentials c)) × (is_at c σ e (region_at c a) ≡ true))
        → flags_agree (picture c σ) (edge c p r t e x l) ≡ true
    unfolding flags_agree edge
    flags_agree_by p r t e x l small f = below_all _ 16 (λ a j. implies_by (has x a) _ (λ i. flag_says p r t e x l small a (f a i).0 i ∙ (f a i).1))

    untested_agree : (p r : Place) (t e : ℕ) (l : Label) → flags_agree (picture c σ) (edge c p r t e 0 l) ≡ true
    unfolding flags_agree edge
    untested_agree p r t e l = below_all _ 16 (λ a j. implies_by (has 0 a) _ (λ i. clash i (has_zero a)))

    tested_agree : (p r : Place) (t e x : ℕ) (l : Label) → e < 8 → ((a : ℕ) → has x a ≡ true → (a < length (sequentials c)) × (is_at c σ e (region_at c a) ≡ true))
        → flags_agree (picture c σ) (edge c p r t (exit_tested x e) x l) ≡ true
    tested_agree p r t e x l small f = elim (ℕ_discrete x 0) [
      | yes z ↦ ap (λ (y : ℕ). flags_agree (picture c σ) (edge c p r t (exit_tested x e) y l)) z ∙ untested_agree p r t (exit_tested x e) l
      | no d ↦ ap (λ (y : ℕ). flags_agree (picture c σ) (edge c p r t y x l)) (tested_some x e d) ∙ flags_agree_by p r t e x l small f
    ]

    -- an edge that leaves a place is active, just if the picture has its automaton there, its guards hold and its flags agree
    module _ (p : Place) (e : Edge) (k : IsPlace c p) (l : Leaves c p e) where
      active_is : active_edge (flatten c) (picture c σ) e ≡ (same_place (pictured c σ (place_home c p)) p && (guards_hold σ.variables σ.clocks e.label && flags_agree (picture c σ) e))
      unfolding picture standing
      active_is = active_standing c passed (pictured c σ) σ.variables σ.clocks (pictured_fits c σ tree) p e k l

      module _ (active : active_edge (flatten c) (picture c σ) e ≡ true) where
        stands_there : pictured c σ (place_home c p) ≡ p
        stands_there = same_place_at _ p (and_l (same_place (pictured c σ (place_home c p)) p) _ (sym active_is ∙ active))

        rest_holds : (guards_hold σ.variables σ.clocks e.label && flags_agree (picture c σ) e) ≡ true
        rest_holds = and_r (same_place (pictured c σ (place_home c p)) p) _ (sym active_is ∙ active)

      active_by : pictured c σ (place_home c p) ≡ p → guards_hold σ.variables σ.clocks e.label ≡ true → flags_agree (picture c σ) e ≡ true → active_edge (flatten c) (picture c σ) e ≡ true
      active_by h g f = active_is ∙ both (ap (λ (x : Place). same_place x p) h ∙ same_place_by p) (both g f)

    bears_leaves : (t : ℕ) (e : Edge) → t < length c.transitions → Bears c t (departure c t) e → Leaves c (child (transition_at c t).source) e
    bears_leaves t e h b = inr (record { transition = t; known = h; source_is = refl; bears = b })

    -- an alternative has only automata of the chart
    alternative_known : (t : ℕ) → t < length c.transitions → has_exit c t ≡ true → {x : ℕ} → Mem x (alternatives c (transition_at c t).source (transition_at c t).exit) → (a : ℕ) → has x a ≡ true → a < length (sequentials c)
    alternative_known t h e {x} m a i = elim (dec_lt a (length (sequentials c))) [ yes l ↦ l | no l ↦ clash i (has_high (length (sequentials c)) x a (alternative_lt c passed ranges t h e m) (omega arith)) ]

    -- an active edge that bears t: t is active, and the edge is its carrier
    pub bearing_active : (t : ℕ) (e : Edge) → t < length c.transitions → Bears c t (departure c t) e → active_edge (flatten c) (picture c σ) e ≡ true
        → (active_transition c σ (transition_at c t) ≡ true) × (e ≡ carrier c σ t)
    unfolding active_transition carrier has_exit
    bearing_active t e h b k = ⊎_elim
        (λ z.
        let is : e ≡ bears (exit_tested b.set exit) b.set = b.edge_is ∙ ap (λ (x : ℕ). bears x b.set) z.1 in
        let r = completed_of_alternative c passed ranges σ tree source exit active b.set z.2 (λ a i.
        let some = tested_some b.set exit (λ y. clash (ap (λ (w : ℕ). has w a) (sym y) ∙ i) (has_zero a)) in
        flags_agree_at (child source) (departure c t) t exit b.set label (omega (arith, exit_lt c passed ranges t h z.0, ranges.exits_few))
        (ap (flags_agree (picture c σ)) (ap (λ (x : ℕ). bears x b.set) (sym some) ∙ sym is) ∙ and_r (guards_hold σ.variables σ.clocks e.label) _ holds) a (alternative_known t h z.0 z.2 a i) i) in
        (both active (both guards (or_r (basic c source) r.0)), is ∙ ap (λ (x : ℕ). bears (exit_tested x exit) x) (r.1 ∙ sym (cond_yes _ 0 z.0))))
        (λ z. (
          both active (both guards (or_l _ (source_basic c passed ranges t h z.0))),
          b.edge_is ∙ ap (λ (x : ℕ). bears x b.set) (z.1 ∙ sym (tested_none b.set exit z.2)) ∙ ap (λ (x : ℕ). bears (exit_tested x exit) x) (z.2 ∙ sym (cond_no _ 0 z.0)),
        ))
        b.tests
      where
        source : ℕ
        source = (transition_at c t).source

        exit : ℕ
        exit = (transition_at c t).exit

        label : Label
        label = (transition_at c t).label

        bears : ℕ → ℕ → Edge
        bears x y = edge c (child source) (departure c t) t x y label

        from : IsPlace c (child source)
        from = (source_place c passed ranges t h).is_place

        holds : (guards_hold σ.variables σ.clocks e.label && flags_agree (picture c σ) e) ≡ true
        holds = rest_holds (child source) e from (bears_leaves t e h b) k

        guards : guards_hold σ.variables σ.clocks label ≡ true
        guards = ap (guards_hold σ.variables σ.clocks) (sym (bears_label c t (departure c t) e b)) ∙ and_l (guards_hold σ.variables σ.clocks e.label) _ holds

        active : is_active σ source ≡ true
        active = active_of_pictured c σ tree from.region (stands_there (child source) e from (bears_leaves t e h b) k)

    -- an active transition's carrier is an edge of the network, and active
    at_set_has : (m e a : ℕ) → has (at_set c σ m e) a ≡ true → (a < length (sequentials c)) × (is_at c σ e (region_at c a) ≡ true)
    unfolding at_set
    at_set_has m e a h =
        let k = sym (has_bits _ (length (sequentials c)) a) ∙ h in
        (ltb-true a (length (sequentials c)) (and_l (ltb a (length (sequentials c))) _ k), and_r (under c m (region_at c a)) _ (and_r (ltb a (length (sequentials c))) _ k))

    module _ (t : ℕ) (h : t < length c.transitions) (k : active_transition c σ (transition_at c t) ≡ true) where
      source_active : is_active σ (transition_at c t).source ≡ true
      unfolding active_transition
      source_active = and_l (is_active σ (transition_at c t).source) _ k

      pub exit_completed : has_exit c t ≡ true → completed c σ (transition_at c t).source (transition_at c t).exit ≡ true
      unfolding active_transition
      exit_completed z = or_else (basic c (transition_at c t).source) _ (and_r (guards_hold σ.variables σ.clocks (transition_at c t).label) _ (and_r (is_active σ (transition_at c t).source) _ k)) (source_composite c passed ranges t h z)

      carrier_bears : Bears c t (departure c t) (carrier c σ t)
      unfolding carrier has_exit
      carrier_bears = record {
        exit = exit_by c σ t;
        set = tested_by c σ t;
        tests = ⊎_elim
            (λ z. inl (z, refl, cast (cond_yes _ 0 z) (alternative_of_completed c passed ranges σ tree (transition_at c t).source (transition_at c t).exit source_active (exit_completed z))))
            (λ z. inr (z, tested_none _ _ (cond_no _ 0 z), cond_no _ 0 z))
            (decided (has_exit c t));
        edge_is = refl;
      }

      carrier_agrees : flags_agree (picture c σ) (carrier c σ t) ≡ true
      unfolding carrier
      carrier_agrees = go (has_exit c t) refl
        where
          set : Bool → ℕ
          set b = cond b (at_set c σ (transition_at c t).source (transition_at c t).exit) 0

          go : (b : Bool) → has_exit c t ≡ b → flags_agree (picture c σ) (edge c (child (transition_at c t).source) (departure c t) t (exit_tested (set b) (transition_at c t).exit) (set b) (transition_at c t).label) ≡ true
          go true z = tested_agree _ _ t (transition_at c t).exit _ _ (omega (arith, exit_lt c passed ranges t h z, ranges.exits_few)) (at_set_has (transition_at c t).source (transition_at c t).exit)
          go false z = untested_agree _ _ t _ _

      pub carrier_leaves : Leaves c (child (transition_at c t).source) (carrier c σ t)
      carrier_leaves = bears_leaves t (carrier c σ t) h carrier_bears

      pub carrier_mem : Mem (carrier c σ t) (flatten c).edges
      carrier_mem = edges_by c passed ranges (source_place c passed ranges t h).is_place carrier_leaves

      pub carrier_active : active_edge (flatten c) (picture c σ) (carrier c σ t) ≡ true
      unfolding active_transition place_home home
      carrier_active =
          let p = (source_place c passed ranges t h).is_place in
          active_by (child (transition_at c t).source) (carrier c σ t) p carrier_leaves
          (pictured_child c σ tree p.region (ends c passed ranges t h).from source_active)
          (ap (guards_hold σ.variables σ.clocks) (bears_label c t (departure c t) (carrier c σ t) carrier_bears) ∙ and_l (guards_hold σ.variables σ.clocks (transition_at c t).label) _ (and_r (is_active σ (transition_at c t).source) _ k))
          carrier_agrees

    -- every active edge of the picture is the carrier of an active transition, or hears a channel of the network's own
    pub active_edges : (e : Edge) → Mem e (flatten c).edges → active_edge (flatten c) (picture c σ) e ≡ true
        → ((t : ℕ) × (t < length c.transitions) × (active_transition c σ (transition_at c t) ≡ true) × (e ≡ carrier c σ t))
        ⊎ ((e.transition ≡ 255) × (e.label.signal ≡ 2) × (c.rendezvous + c.broadcasts ≤ e.label.channel))
    unfolding own_edge edge signalling urgent_place
    active_edges e m k = let r = edges_at c m in go r.0 r.1 r.2
      where
        stands : (p : Place) → IsPlace c p → Leaves c p e → urgent_place p ≡ 0
        stands p j l = ap urgent_place (sym (stands_there p e j l k)) ∙ pictured_not_urgent c σ (place_home c p)

        hears : (p r : Place) (ch : ℕ) → c.rendezvous + c.broadcasts ≤ ch → e ≡ own_edge c p r (signalling 2 ch) → (e.transition ≡ 255) × (e.label.signal ≡ 2) × (c.rendezvous + c.broadcasts ≤ e.label.channel)
        hears p r ch h is = (ap (λ (x : Edge). x.transition) is, ap (λ (x : Edge). x.label.signal) is, omega (arith, ap (λ (x : Edge). x.label.channel) is))

        go : (p : Place) → IsPlace c p → Leaves c p e
            → ((t : ℕ) × (t < length c.transitions) × (active_transition c σ (transition_at c t) ≡ true) × (e ≡ carrier c σ t))
            ⊎ ((e.transition ≡ 255) × (e.label.signal ≡ 2) × (c.rendezvous + c.broadcasts ≤ e.label.channel))
        go (idle q) j l = inr (hears (idle q) (child l.to) (enter_channel c l.pair) (enter_channel_ge c l.pair) l.edge_is)
        go (child s) j l = ⊎_elim
            (λ i. inr (hears (child s) (idle (parent_of c s)) (exit_channel c i.pair) (omega (arith, exit_channel_ge c i.pair)) i.edge_is))
            (λ i. let z = bearing_active i.transition e i.known i.bears k in inl (i.transition, i.known, z.0, z.1))
            l
        go (pre p) j l = absurd (let z : ◌≡◌ {A = ℕ} 1 0 = stands (pre p) j l in omega arith)
        go (post t) j l = absurd (let z : ◌≡◌ {A = ℕ} 1 0 = stands (post t) j l in omega arith)
