-- Where the automata are while moves are pending: each at a place of its own (`placed_fits`), and just those of the homes of
-- pending transitions at urgent places (`home_urgent`, `urgent_home`). What the picture has at the home of a pending transition
-- and below its ends: `pictured_home`, `pictured_entered`, `pictured_left`.
use mathlib.Core.Path.{◌≡◌, refl, sym, ap, ◌∙◌, subst}
use mathlib.Core.Bool.{Bool, true, false, ◌||◌}
use mathlib.Core.Logic.{◌⊎◌, inl, inr, ⊎_elim, ◌≢◌}
use mathlib.Core.List.{List, Memᴰ as Mem}
use Prim.Native.Nat.{ℕ, ◌<◌}
use native.Mathlib.Omega.{arith}
use borrow.Author.Tests.{eqb-true, eqb-false}
use lib.Dec.{eqb}
use Rattle.lists.specs.Lists.{any, has}
use Rattle.lists.proofs.Bools.{clash, decided, fails, or_l, or_r, or_cases, cond_yes, cond_no}
use Rattle.lists.proofs.Lists.{any_at, any_none}
use Rattle.chart_records.specs.Chart.{Chart, transition_at, home, basic, state_at}
use Rattle.chart_records.specs.Tree.{under, entered}
use Rattle.chart_moves.specs.Machine.{is_active, is_tree}
use Rattle.chart_records.proofs.Tree.{size, Child, under_refl, under_transitive, under_le, child_under, child_above, sequential_not_basic}
use Rattle.chart_records.proofs.Entered.{Entry, entered_top, entered_alone, entered_child, entered_marked, entered_under}
use Rattle.chart_moves.proofs.Active.{tree_at, active_above}
use Rattle.chart_records.proofs.Rules.{Passed}
use Rattle.chart_records.proofs.Ranges.{Ranges}
use Rattle.chart_rules.proofs.TransitionRules.{entry_of}
use Rattle.flattening.specs.Flatten.{Place, idle, child, pre, post, has_entry, urgent_place, marked_child}
use Rattle.flattening.specs.Picture.{pictured}
use Rattle.flattening.proofs.Automata.{Region, marked_child_lem}
use Rattle.flattening.proofs.Numbers.{PlaceOf, idle_place, child_place}
use Rattle.flattening.proofs.Arrivals.{has_entry_at, no_entry_at, Ends, ends, post_place, pre_place, entry_lt}
use Rattle.agreement.specs.Agreement.{ChartConfiguration}
use Rattle.agreement.proofs.Relation.{Pending, entry_pair, Concerns, IsPending, Placed}
use Rattle.agreement.proofs.Standing.{Fits}
use Rattle.flattening.proofs.Pictured.{pictured_idle, pictured_child, pictured_fits, pictured_not_urgent}

-- one pending transition, and the chart where it leads
module _ (c : Chart) (passed : Passed c) (ranges : Ranges c) (σ : ChartConfiguration) (tree : is_tree c σ ≡ true) (f : ℕ → Place) (p : Pending) (k : IsPending c σ f p) where
  abbrev t : ℕ
  t = p.transition

  abbrev source : ℕ
  source = (transition_at c t).source

  abbrev destination : ℕ
  destination = (transition_at c t).destination

  abbrev entry : ℕ
  entry = (transition_at c t).entry

  pub pending_ends : Ends c t
  pending_ends = ends c passed ranges t k.known

  pub pending_entry : Entry c destination entry
  pending_entry = entry_of c passed ranges t k.known

  destination_active : is_active σ destination ≡ true
  destination_active = let e = pending_ends.to in
      k.arrived destination (under_refl c destination) ∙ entered_top c passed.tree passed.entry_marks_lem destination e.known pending_entry

  -- what a pending transition concerns lies below its home
  pub concerns_home : (q : ℕ) → q < size c → Concerns c p q → under c (home c t) q ≡ true
  concerns_home q h = ⊎_elim
      (λ u. under_transitive c passed.tree (home c t) source q h (child_under c passed.tree pending_ends.from) u)
      (λ u. under_transitive c passed.tree (home c t) destination q h (child_under c passed.tree pending_ends.to) u)

  pub concerns_not_home : (q : ℕ) → q < size c → Concerns c p q → q ≢ home c t
  concerns_not_home q h w e = ⊎_elim
      (λ u. omega (arith, under_le c passed.tree source q h u, child_above c passed.tree pending_ends.from))
      (λ u. omega (arith, under_le c passed.tree destination q h u, child_above c passed.tree pending_ends.to)) w

  -- where the automata of such states are: not at an urgent place
  pub concerned_place : (r : ℕ) → Region c r → Concerns c p r → PlaceOf c r (f r) × (urgent_place (f r) ≡ 0)
  unfolding urgent_place
  concerned_place r g w = ⊎_elim
      (λ e. subst (λ (x : Place). PlaceOf c r x × (urgent_place x ≡ 0)) (sym e) (idle_place c g, refl))
      (λ h. subst (λ (x : Place). PlaceOf c r x × (urgent_place x ≡ 0)) (sym h.stands) (child_place c g h.is_child_lem, refl))
      (k.below_at r g w)

  -- and of the home: at post or at pre
  pub home_leaving : p.leaving ≡ true → f (home c t) ≡ post t
  home_leaving h = k.home_at ∙ cond_yes _ _ h

  pub home_entering : p.leaving ≡ false → f (home c t) ≡ pre (entry_pair c t)
  home_entering h = k.home_at ∙ cond_no _ _ h

  pub home_place : PlaceOf c (home c t) (f (home c t)) × (urgent_place (f (home c t)) ≡ 1)
  unfolding urgent_place
  home_place = ⊎_elim
      (λ h. subst (λ (x : Place). PlaceOf c (home c t) x × (urgent_place x ≡ 1)) (sym (home_leaving h)) (post_place c passed ranges t k.known (k.leaves h), refl))
      (λ h. subst (λ (x : Place). PlaceOf c (home c t) x × (urgent_place x ≡ 1)) (sym (home_entering h)) (pre_place c passed ranges t k.known (k.enters h), refl))
      (decided p.leaving)

  -- the picture at the home, and below the ends
  pub pictured_home : pictured c σ (home c t) ≡ child destination
  pictured_home = pictured_child c σ tree pending_ends.region pending_ends.to destination_active

  pub pictured_left : (q : ℕ) → Region c q → Concerns c p q → entered c destination entry q ≡ false → pictured c σ q ≡ idle q
  pictured_left q g w n = pictured_idle c σ q (fails (is_active σ q) (λ a. ⊎_elim
      (λ u. clash a (k.arrived q u ∙ n))
      (λ u. let below : under c source q ≡ true = ⊎_elim (λ x. x) (λ x. clash x u) w in
      let e = pending_ends in
      let active = tree_at c σ tree in
      let s = active_above c passed.tree (is_active σ) active source q g.known below a in
      let up = ap (is_active σ) (sym e.from.parent_is) ∙ active.up source e.from.known e.from.below_root s in
      let o = active.one (home c t) e.region.known e.region.is_sequential up in
      clash (ap (λ (x : ℕ). under c x q) (o.alone destination e.to destination_active ∙ sym (o.alone source e.from s)) ∙ below) u)
      (decided (under c destination q))))

  -- without an entry nothing but the destination is entered, and that is basic
  pub not_entered : has_entry c t ≡ false → (q : ℕ) → Region c q → entered c destination entry q ≡ false
  not_entered h q g = fails (entered c destination entry q) (λ a. ⊎_elim
      (λ b. clash (ap (basic c) (eqb-true q destination (sym (entered_alone c destination entry q b.1) ∙ a)) ∙ b.0) (sequential_not_basic c q g.is_sequential))
      (λ b. absurd (b.0 (no_entry_at c t h))) pending_entry)

  -- with one, the child that is marked with it
  module _ (has_entry_lem : has_entry c t ≡ true) (q : ℕ) (g : Region c q) (a : entered c destination entry q ≡ true) where
    pub marked : Child c q (marked_child c q entry) × (has (state_at c (marked_child c q entry)).entries entry ≡ true) × ((s : ℕ) → Child c q s → has (state_at c s).entries entry ≡ true → s ≡ marked_child c q entry)
    marked = marked_child_lem c passed.entry_marks_lem q entry g (entry_lt c passed ranges t k.known has_entry_lem)
        (entered_marked c passed.tree passed.entry_marks_lem destination pending_ends.to.known q (has_entry_at c t has_entry_lem) a)

    pub marked_entered : entered c destination entry (marked_child c q entry) ≡ true
    marked_entered = entered_child c passed.tree passed.entry_marks_lem destination pending_ends.to.known q (marked_child c q entry) pending_entry marked.0 a marked.1

    pub pictured_entered : pictured c σ q ≡ child (marked_child c q entry)
    pictured_entered = pictured_child c σ tree g marked.0
        (k.arrived _ (entered_under c passed.tree passed.entry_marks_lem destination pending_ends.to.known (marked_child c q entry) pending_entry marked_entered) ∙ marked_entered)

-- all of them
module _ (c : Chart) (passed : Passed c) (ranges : Ranges c) (σ : ChartConfiguration) (tree : is_tree c σ ≡ true) (f : ℕ → Place) (ps : List Pending) (placed : Placed c σ f ps) where
  concerns : Pending → ℕ → Bool
  concerns p q = under c (transition_at c p.transition).source q || under c (transition_at c p.transition).destination q

  -- an automaton is of the home of a pending transition, below its ends, or where the picture has it
  pub where_placed : (q : ℕ) → Region c q → ((p : Pending) × Mem p ps × (q ≡ home c p.transition)) ⊎ (((p : Pending) × Mem p ps × Concerns c p q) ⊎ (f q ≡ pictured c σ q))
  unfolding concerns
  where_placed q g = ⊎_elim
      (λ h. let r = any_at (λ p. eqb q (home c p.transition)) ps h in inl (r.0, r.1, eqb-true q (home c r.0.transition) r.2))
      (λ h. inr (⊎_elim
      (λ k. let r = any_at (λ p. concerns p q) ps k in inl (r.0, r.1, or_cases (under c (transition_at c r.0.transition).source q) _ r.2))
      (λ k. inr (placed.others q g (λ p m. (
        eqb-false q (home c p.transition) (any_none (λ p. eqb q (home c p.transition)) ps h m),
        λ w. clash (⊎_elim (λ u. or_l _ u) (λ u. or_r (under c (transition_at c p.transition).source q) u) w) (any_none (λ p. concerns p q) ps k m),
      ))))
      (decided (any (λ p. concerns p q) ps))))
      (decided (any (λ p. eqb q (home c p.transition)) ps))

  pub placed_fits : Fits c f
  placed_fits q g = ⊎_elim
      (λ h. subst (λ (x : ℕ). PlaceOf c x (f x)) (sym h.2) (home_place c passed ranges σ tree f h.0 (placed.each h.0 h.1)).0)
      (λ h. ⊎_elim
      (λ w. (concerned_place c passed ranges σ tree f w.0 (placed.each w.0 w.1) q g w.2).0)
      (λ e. subst (PlaceOf c q) (sym e) (pictured_fits c σ tree q g)) h)
      (where_placed q g)

  -- at an urgent place is just the automaton of the home of a pending transition
  pub home_urgent : (p : Pending) → Mem p ps → urgent_place (f (home c p.transition)) ≡ 1
  home_urgent p m = (home_place c passed ranges σ tree f p (placed.each p m)).1

  pub urgent_home : (q : ℕ) → Region c q → urgent_place (f q) ≡ 1 → (p : Pending) × Mem p ps × (q ≡ home c p.transition)
  urgent_home q g u = ⊎_elim (λ h. h) (λ h. absurd (⊎_elim
      (λ w. omega (arith, (concerned_place c passed ranges σ tree f w.0 (placed.each w.0 w.1) q g w.2).1))
      (λ e. omega (arith, ap urgent_place e, pictured_not_urgent c σ q)) h))
      (where_placed q g)
