-- The network configuration in which the automaton of each sequential state q is at the place f q, flags true: its places and
-- flags, which edges are active there, whether it is a configuration and keeps the bounds, whether an urgent place is occupied,
-- and that edges that take automata from where f has them to where g has them lead to the one for g.
use mathlib.Core.Path.{◌≡◌, refl, sym, ap, ap₂, ◌∙◌, subst}
use mathlib.Core.Bool.{Bool, true, cond, ◌&&◌, and-true}
use mathlib.Core.Logic.{◌⊎◌, inl, inr, ⊎_elim, ◌≢◌}
use mathlib.Core.List.{List, map, Memᴰ as Mem}
use Prim.Native.Nat.{ℕ, ◌+◌, ◌≤◌, ◌<◌}
use native.Mathlib.Omega.{arith}
use native.Mathlib.Decide.{dec_lt}
use borrow.Author.Tests.{eqb-true, eqb-false, eq-eqb, lt-ltb, le-ltb}
use lib.Dec.{ltb, eqb}
use lib.IntN.{ℤ}
use lib.ListN.{length, get_or, set, length-map, length-drop}
use lib.Seq.{ext_get_or, get_or-drop}
use Rattle.lists.specs.Lists.{has, all, any, below, implies, bits_of}
use Rattle.labels.specs.Label.{Label, guards_hold}
use Rattle.clocks.specs.Clocks.{keeps, zero_past, in_limit, zeros_past}
use Rattle.steps.specs.Moves.{all_stay, variables_after, clocks_after}
use Rattle.lists.proofs.Bools.{parts, and_l, both, same, decided, cond_yes, cond_no}
use Rattle.lists.proofs.Lists.{all_by, any_at, any_none, mem_get_d}
use Rattle.lists.proofs.Below.{below_all, get_d_mapped, length_below}
use Rattle.steps.proofs.Kept.{variables_stay, none_leaves, clocks_stay}
use Rattle.chart_records.specs.Chart.{Chart}
use Rattle.chart_records.specs.Tree.{sequentials}
use Rattle.chart_moves.specs.Machine.{is_configuration as is_chart_configuration}
use Rattle.chart_records.proofs.Rules.{Passed}
use Rattle.network_records.specs.Network.{Edge, location_at, urgent_at, owner_of}
use Rattle.network_moves.specs.Machine.{place, bounds_kept, is_configuration, flags_agree, active_edge, urgent, overwrite, move, write, after}
use Rattle.flattening.specs.Flatten.{Place, same_place, number, automaton, place_home, bounds_of, flag_at, written_by, values_by, signalling, edge, own_edge, urgent_place, flatten}
use Rattle.flattening.specs.Picture.{pictured, picture}
use Rattle.network_moves.proofs.Moving.{move_length, move_other, move_to, write_length, write_other, write_to}
use Rattle.flattening.proofs.Flags.{write_flags, write_again}
use Rattle.flattening.proofs.Automata.{all_automata, any_automata, Region, region_at, region_at_lem, automaton_lt, region_of_automaton, automaton_of_region, automaton_injective}
use Rattle.flattening.proofs.Numbers.{IsPlace, PlaceOf, same_place_at, same_place_by, number_lt, number_injective, automaton_of_place, urgent_of_place, bounds_of_place, locations_length}
use Rattle.flattening.proofs.Edges.{Leaves, source_of, edges_at, owner_of_lem}
use Rattle.agreement.specs.Agreement.{ChartConfiguration}
use Rattle.agreement.proofs.Relation.{standing}

-- the picture is a standing configuration
pub picture_stands : (c : Chart) (σ : ChartConfiguration) → picture c σ ≡ standing c (pictured c σ) σ.variables σ.clocks
unfolding picture standing
picture_stands c σ = refl

-- f has each automaton at one of its places
abbrev pub Fits : Chart → (ℕ → Place) → Type 0
Fits c f = (q : ℕ) → Region c q → PlaceOf c q (f q)

-- a list with an element for each automaton, and z past them
unfoldable per_automaton : {A : Type 0} → Chart → (ℕ → A) → A → List A
per_automaton c f z = map (λ a. cond (ltb a (length (sequentials c))) (f (region_at c a)) z) (below 16)

module _ (c : Chart) (few : length (sequentials c) ≤ 16) {A : Type 0} (f : ℕ → A) (z : A) where
  per_length : length (per_automaton c f z) ≡ 16
  unfolding per_automaton
  per_length = length-map (below 16) _ ∙ length_below 16

  per_region : {q : ℕ} → Region c q → get_or (per_automaton c f z) (automaton c q) z ≡ f q
  unfolding per_automaton
  per_region {q} g = let l = automaton_lt c g in
      get_d_mapped _ 16 (automaton c q) z (omega arith) ∙ cond_yes _ z (lt-ltb (automaton c q) _ l) ∙ ap f (region_of_automaton c g)

  per_past : (a : ℕ) → a < 16 → length (sequentials c) ≤ a → get_or (per_automaton c f z) a z ≡ z
  unfolding per_automaton
  per_past a l h = get_d_mapped _ 16 a z l ∙ cond_no _ z (le-ltb a _ h)

  -- a list that has these elements is it
  per_is : (xs : List A) → length xs ≡ 16 → ((q : ℕ) → Region c q → get_or xs (automaton c q) z ≡ f q) → ((a : ℕ) → a < 16 → length (sequentials c) ≤ a → get_or xs a z ≡ z) → xs ≡ per_automaton c f z
  per_is xs e g h = ext_get_or z xs (per_automaton c f z) (e ∙ sym per_length) (λ a l. elim (dec_lt a (length (sequentials c))) [
    | yes k ↦ let j = automaton_of_region c a k in let r = region_at_lem c a k in
        ap (λ (x : ℕ). get_or xs x z) (sym j) ∙ g (region_at c a) r ∙ sym (per_region r) ∙ ap (λ (x : ℕ). get_or (per_automaton c f z) x z) j
    | no k ↦ h a (omega arith) (omega arith) ∙ sym (per_past a (omega arith) (omega arith))
  ])

per_zero : (c : Chart) → length (sequentials c) ≤ 16 → (f : ℕ → ℕ) → zero_past (length (sequentials c)) (per_automaton c f 0) ≡ true
unfolding zero_past
per_zero c few f = all_by _ _ (λ x m.
    let r = mem_get_d 0 m in
    let n = length (sequentials c) in
    let e : get_or (per_automaton c f 0) (n + r.0) 0 ≡ x = sym (get_or-drop n (per_automaton c f 0) r.0 0) ∙ r.2 in
    elim (dec_lt (n + r.0) 16) [
      | yes l ↦ eq-eqb x 0 (sym e ∙ per_past c few f 0 (n + r.0) l (omega arith))
      | no l ↦ absurd (omega (arith, r.1, length-drop n (per_automaton c f 0), per_length c few f 0))
    ])

module _ (c : Chart) (passed : Passed c) (f : ℕ → Place) (vs : List ℤ) (cs : List ℕ) where
  -- where the automata are, and their flags
  pub place_standing : {q : ℕ} → Region c q → place (standing c f vs cs) (automaton c q) ≡ number c (f q)
  unfolding place standing per_automaton
  place_standing g = per_region c passed.at_most (λ q. number c (f q)) 0 g

  pub flag_standing : {q : ℕ} → Region c q → get_or (standing c f vs cs).flags (automaton c q) 0 ≡ bits_of (flag_at c q (f q)) 8
  unfolding standing per_automaton
  flag_standing g = per_region c passed.at_most (λ q. bits_of (flag_at c q (f q)) 8) 0 g

  module _ (fits : Fits c f) where
    -- the bounds that are kept
    pub bounds_standing : bounds_kept (flatten c) (standing c f vs cs) ≡ all (λ q. keeps (bounds_of c (f q)) cs) (sequentials c)
    unfolding bounds_kept flatten standing
    bounds_standing = all_automata c _ _ (λ q g. ap (λ (r : List ℕ). keeps r cs) (ap (λ (i : ℕ). (location_at (flatten c) i).bounds) (place_standing g) ∙ bounds_of_place c (fits q g).is_place))

    -- an urgent place is occupied
    pub urgent_standing : urgent (flatten c) (standing c f vs cs) ≡ any (λ q. eqb (urgent_place (f q)) 1) (sequentials c)
    unfolding urgent urgent_at flatten
    urgent_standing = any_automata c _ _ (λ q g. ap (λ (n : ℕ). eqb n 1) (ap (λ (i : ℕ). (location_at (flatten c) i).urgent) (place_standing g) ∙ urgent_of_place c (fits q g).is_place))

    -- an edge that leaves a place is active where its automaton is there, its guards hold and the flags agree
    module _ (p : Place) (e : Edge) (k : IsPlace c p) where
      at_source : e.source ≡ number c p → eqb (place (standing c f vs cs) (owner_of (flatten c) e)) e.source ≡ same_place (f (place_home c p)) p
      unfolding owner_of
      at_source s =
          let here-is : place (standing c f vs cs) (owner_of (flatten c) e) ≡ number c (f (place_home c p)) = ap (place (standing c f vs cs)) (ap (λ (i : ℕ). (location_at (flatten c) i).automaton) s ∙ automaton_of_place c k) ∙ place_standing k.region in
          ap₂ eqb here-is s ∙ same _ _
          (λ h. subst (λ (x : Place). same_place (f (place_home c p)) x ≡ true) (number_injective c (fits _ k.region).is_place k (eqb-true _ _ h)) (same_place_by (f (place_home c p))))
          (λ h. eq-eqb _ _ (ap (number c) (same_place_at (f (place_home c p)) p h)))

      pub active_standing : Leaves c p e → active_edge (flatten c) (standing c f vs cs) e ≡ (same_place (f (place_home c p)) p && (guards_hold vs cs e.label && flags_agree (standing c f vs cs) e))
      unfolding active_edge standing
      active_standing l = ap (λ (b : Bool). b && (guards_hold vs cs e.label && flags_agree (standing c f vs cs) e)) (at_source (source_of c p e l))

      -- an edge of the network's own has no guards and no test
      pub active_own : (r : Place) (signal channel : ℕ) → e ≡ own_edge c p r (signalling signal channel) → active_edge (flatten c) (standing c f vs cs) e ≡ same_place (f (place_home c p)) p
      unfolding active_edge own_edge edge signalling guards_hold flags_agree all below implies has
      active_own r signal channel s = ap₂ ◌&&◌ (at_source (ap (λ (x : Edge). x.source) s)) (both guards flags) ∙ and-true (same_place (f (place_home c p)) p)
        where
          guards : guards_hold (standing c f vs cs).variables (standing c f vs cs).clocks e.label ≡ true
          guards = ap (λ (x : Edge). guards_hold (standing c f vs cs).variables (standing c f vs cs).clocks x.label) s

          flags : flags_agree (standing c f vs cs) e ≡ true
          flags = ap (flags_agree (standing c f vs cs)) s

-- an active edge leaves the place where f has its automaton
pub active_leaves : (c : Chart) → Passed c → (f : ℕ → Place) (vs : List ℤ) (cs : List ℕ) → Fits c f → {e : Edge} → Mem e (flatten c).edges → active_edge (flatten c) (standing c f vs cs) e ≡ true
    → (q : ℕ) × Region c q × Leaves c (f q) e × (owner_of (flatten c) e ≡ automaton c q)
active_leaves c passed f vs cs fits {e} m a =
    let r = edges_at c m in
    let h = sym (active_standing c passed f vs cs fits r.0 e r.1 r.2) ∙ a in
    let at = same_place_at (f (place_home c r.0)) r.0 (and_l (same_place (f (place_home c r.0)) r.0) _ h) in
    (place_home c r.0, r.1.region, subst (λ (p : Place). Leaves c p e) (sym at) r.2, owner_of_lem c r.0 e r.1 r.2)

-- labels that only signal change neither variables nor clocks, and leave no range
abbrev pub Signals : Label → Type 0
Signals l = (signal : ℕ) × (channel : ℕ) × (l ≡ signalling signal channel)

pub signals_variables : (ls : List Label) (vs : List ℤ) → ((l : Label) → Mem l ls → Signals l) → variables_after ls vs ≡ vs
unfolding signalling
signals_variables ls vs h = variables_stay ls vs (λ l m. ap (λ (x : Label). x.body.updates) (h l m).2)

pub signals_stay : (ls : List Label) (vs : List ℤ) → ((l : Label) → Mem l ls → Signals l) → all_stay ls vs ≡ true
unfolding signalling
signals_stay ls vs h = none_leaves ls vs (λ l m. ap (λ (x : Label). x.body.updates) (h l m).2)

pub signals_clocks : (ls : List Label) (cs : List ℕ) → ((l : Label) → Mem l ls → Signals l) → clocks_after ls cs ≡ cs
unfolding signalling
signals_clocks ls cs h = clocks_stay ls cs (λ l m. ap (λ (x : Label). x.resets) (h l m).2)

-- the standing of a configuration's variables and clocks is a configuration, just when it keeps the bounds
module _ (c : Chart) (passed : Passed c) (f : ℕ → Place) (fits : Fits c f) where
  known_places : (vs : List ℤ) (cs : List ℕ) → all (λ a. ltb (place (standing c f vs cs) a) (length (flatten c).locations) && eqb (location_at (flatten c) (place (standing c f vs cs) a)).automaton a) (below (length (sequentials c))) ≡ true
  known_places vs cs = below_all _ _ (λ a l.
      let r = region_at_lem c a l in
      let k = fits (region_at c a) r in
      let e = automaton_of_region c a l in
      let at : place (standing c f vs cs) a ≡ number c (f (region_at c a)) = ap (place (standing c f vs cs)) (sym e) ∙ place_standing c passed f vs cs r in
      both (lt-ltb (place (standing c f vs cs) a) (length (flatten c).locations) (omega (arith, at, number_lt c k.is_place, locations_length c)))
      (eq-eqb _ a (ap (λ (i : ℕ). (location_at (flatten c) i).automaton) at ∙ automaton_of_place c k.is_place ∙ ap (automaton c) k.home_is ∙ e)))

  pub configuration_standing : (σ : ChartConfiguration) → is_chart_configuration c σ ≡ true
      → is_configuration (flatten c) (standing c f σ.variables σ.clocks) ≡ bounds_kept (flatten c) (standing c f σ.variables σ.clocks)
  unfolding is_configuration is_chart_configuration flatten standing per_automaton
  configuration_standing σ h =
      let v : zeros_past c.variables σ.variables ≡ true = search parts in
      let l : in_limit c.clocks σ.clocks ≡ true = search parts in
      let z : zero_past c.clocks σ.clocks ≡ true = search parts in
      same _ _ (λ k. search parts depth 8)
      (λ k. both (known_places σ.variables σ.clocks) (both (per_zero c passed.at_most (λ q. number c (f q))) (both (per_zero c passed.at_most (λ q. bits_of (flag_at c q (f q)) 8)) (both v (both l (both z k))))))

-- e takes an automaton from where f has it to where g has it
pub record Takes (c : Chart) (f g : ℕ → Place) (e : Edge) : Type 0 where
  pub home : ℕ
  pub region : Region c home
  pub owner_is : owner_of (flatten c) e ≡ automaton c home
  pub target_is : e.target ≡ number c (g home)
  pub written_is : e.written ≡ written_by c (f home) (g home)
  pub values_is : e.values ≡ values_by c (f home) (g home)

pub takes_by : (c : Chart) (f g : ℕ → Place) → Fits c f → (q : ℕ) → Region c q → {e : Edge} (transition exit set : ℕ) (l : Label) → e ≡ edge c (f q) (g q) transition exit set l → Takes c f g e
unfolding edge owner_of
takes_by c f g fits q r {e} transition exit set l h = record {
  home = q;
  region = r;
  owner_is = ap (λ (x : Edge). owner_of (flatten c) x) h ∙ automaton_of_place c (fits q r).is_place ∙ ap (automaton c) (fits q r).home_is;
  target_is = ap (λ (x : Edge). x.target) h;
  written_is = ap (λ (x : Edge). x.written) h;
  values_is = ap (λ (x : Edge). x.values) h;
}

module _ (c : Chart) (passed : Passed c) (f g : ℕ → Place) (fits : Fits c g) (es : List Edge) (takes : (e : Edge) → Mem e es → Takes c f g e)
    (others : (q : ℕ) → Region c q → ((e : Edge) → Mem e es → owner_of (flatten c) e ≢ automaton c q) → g q ≡ f q) where
  owned : (a : ℕ) → ((e : Edge) × Mem e es × (owner_of (flatten c) e ≡ a)) ⊎ ((e : Edge) → Mem e es → owner_of (flatten c) e ≢ a)
  owned a = ⊎_elim
      (λ h. let r = any_at (λ e. eqb (owner_of (flatten c) e) a) es h in inl (r.0, r.1, eqb-true (owner_of (flatten c) r.0) a r.2))
      (λ h. inr (λ e m. eqb-false (owner_of (flatten c) e) a (any_none (λ e. eqb (owner_of (flatten c) e) a) es h m)))
      (decided (any (λ e. eqb (owner_of (flatten c) e) a) es))

  past_owners : (a : ℕ) → length (sequentials c) ≤ a → (e : Edge) → Mem e es → owner_of (flatten c) e ≢ a
  past_owners a h e m q = let t = takes e m in omega (arith, automaton_lt c t.region, t.owner_is)

  home_of : {q : ℕ} → Region c q → (e : Edge) (m : Mem e es) → owner_of (flatten c) e ≡ automaton c q → (takes e m).home ≡ q
  home_of r e m o = automaton_injective c (takes e m).region r (sym (takes e m).owner_is ∙ o)

  -- edges that take automata from where f has them to where g has them
  moved : (vs : List ℤ) (cs : List ℕ) → move (flatten c) es (standing c f vs cs).locations ≡ (standing c g vs cs).locations
  unfolding standing per_automaton
  moved vs cs = per_is c passed.at_most (λ q. number c (g q)) 0 _ (move_length (flatten c) 0 es _ ∙ per_length c passed.at_most (λ q. number c (f q)) 0)
      (λ q r. ⊎_elim
      (λ t. move_to (flatten c) (automaton c q) (number c (g q)) es _ (omega (arith, automaton_lt c r, passed.at_most, per_length c passed.at_most (λ q. number c (f q)) 0)) (λ e m o. (takes e m).target_is ∙ ap (λ (x : ℕ). number c (g x)) (home_of r e m o)) t.1 t.2)
      (λ t. move_other (flatten c) (automaton c q) es _ t ∙ per_region c passed.at_most (λ q. number c (f q)) 0 r ∙ ap (number c) (sym (others q r t)))
      (owned (automaton c q)))
      (λ a l h. move_other (flatten c) a es _ (past_owners a h) ∙ per_past c passed.at_most (λ q. number c (f q)) 0 a l h)

  written : (vs : List ℤ) (cs : List ℕ) → write (flatten c) es (standing c f vs cs).flags ≡ (standing c g vs cs).flags
  unfolding standing per_automaton
  written vs cs = per_is c passed.at_most (flags g) 0 _ (write_length (flatten c) 0 es _ ∙ per_length c passed.at_most (flags f) 0)
      (λ q r. ⊎_elim
      (λ t. write_to (flatten c) (automaton c q) (flags f q) (flags g q) es _ (omega (arith, automaton_lt c r, passed.at_most, per_length c passed.at_most (flags f) 0)) (writes q r) (per_region c passed.at_most (flags f) 0 r) t.1 t.2)
      (λ t. write_other (flatten c) (automaton c q) es _ t ∙ per_region c passed.at_most (flags f) 0 r ∙ ap (λ (x : Place). bits_of (flag_at c q x) 8) (sym (others q r t)))
      (owned (automaton c q)))
      (λ a l h. write_other (flatten c) a es _ (past_owners a h) ∙ per_past c passed.at_most (flags f) 0 a l h)
    where
      flags : (ℕ → Place) → ℕ → ℕ
      flags f q = bits_of (flag_at c q (f q)) 8

      writes : (q : ℕ) → Region c q → (e : Edge) → Mem e es → owner_of (flatten c) e ≡ automaton c q → (overwrite (flags f q) e.written e.values ≡ flags g q) × (overwrite (flags g q) e.written e.values ≡ flags g q)
      writes q r e m o =
          let t = takes e m in
          let w : e.written ≡ written_by c (f q) (g q) = t.written_is ∙ ap (λ (x : ℕ). written_by c (f x) (g x)) (home_of r e m o) in
          let v : e.values ≡ values_by c (f q) (g q) = t.values_is ∙ ap (λ (x : ℕ). values_by c (f x) (g x)) (home_of r e m o) in
          (ap₂ (overwrite (flags f q)) w v ∙ write_flags c q (f q) (g q) (fits q r).home_is, ap₂ (overwrite (flags g q)) w v ∙ write_again c q (f q) (g q) (fits q r).home_is)

  pub after_standing : (vs : List ℤ) (cs : List ℕ) → after (flatten c) es (standing c f vs cs) ≡ standing c g (variables_after (map (λ e. e.label) es) vs) (clocks_after (map (λ e. e.label) es) cs)
  unfolding after standing per_automaton
  after_standing vs cs = λ i. record { locations = moved vs cs i; flags = written vs cs i; variables = variables_after (map (λ e. e.label) es) vs; clocks = clocks_after (map (λ e. e.label) es) cs }
