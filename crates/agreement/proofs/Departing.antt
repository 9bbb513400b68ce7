-- After a move of the picture: the home of each transition of the step is where the transition departs to, all else is where
-- it was (`departed`). So the network is related to the chart after the step, and what the step names is owed (`departed_placed`).
use mathlib.Core.Path.{◌≡◌, refl, sym, ap, ◌∙◌, subst}
use mathlib.Core.Bool.{Bool, true, false, cond, ◌||◌}
use mathlib.Core.Logic.{◌⊎◌, inl, inr, ⊎_elim}
use mathlib.Core.List.Memᴰ.{cases_cons}
use mathlib.Core.List.Memᴰ.{head as here}
use mathlib.Core.List.Memᴰ.{tail as there}
use mathlib.Core.List.{List, [], ◌∷◌, map, Memᴰ as Mem}
use Prim.Native.Nat.{ℕ, ◌+◌, ◌<◌}
use native.Mathlib.Omega.{arith}
use native.Mathlib.Decide.{ℕ_discrete}
use borrow.Author.Tests.{eqb-true, eqb-false, eq-eqb, ne_eqb}
use lib.Dec.{eqb}
use lib.ListN.{length}
use Rattle.lists.specs.Lists.{any, keep}
use Rattle.lists.proofs.Bools.{clash, decided, fails, both, or_l, or_r, or_else, cond_yes, cond_no}
use Rattle.lists.proofs.Once.{Once, once_keep}
use Rattle.lists.proofs.Lists.{any_by, any_at, any_none, keep_at, keep_by, map_at, map_by}
use Rattle.lists.proofs.Pairwise.{map_once}
use Rattle.chart_records.specs.Chart.{Chart, transition_at, parent_of, basic, home}
use Rattle.chart_records.specs.Tree.{under}
use Rattle.chart_moves.specs.Machine.{is_active, is_tree, active_transition, after}
use Rattle.chart_records.proofs.Tree.{size, states_by, Child, known_below, under_refl, under_down, under_transitive, child_under, basic_under, sequential_not_basic}
use Rattle.chart_records.proofs.Entered.{entered_top, entered_under}
use Rattle.chart_moves.proofs.Active.{tree_at, completed_at, active_above, active_basic}
use Rattle.chart_records.proofs.Rules.{Passed, kinds_left}
use Rattle.chart_records.proofs.Ranges.{Ranges, kinds_of}
use Rattle.chart_moves.proofs.Step.{Together, together_fires, together_tree}
use Rattle.chart_moves.proofs.Moved.{source_not_above, destination_not_above, destination_was_source, stays_active, next_cases, next_below, next_entered}
use Rattle.flattening.specs.Flatten.{Place, idle, child, pre, post, has_exit, has_entry, arrival, departure, marks_below}
use Rattle.flattening.specs.Picture.{pictured}
use Rattle.flattening.proofs.Automata.{Region}
use Rattle.flattening.proofs.Numbers.{PlaceOf}
use Rattle.flattening.proofs.Arrivals.{ends, source_basic, destination_basic, departure_place}
use Rattle.flattening.proofs.Pictured.{pictured_idle, pictured_child, pictured_cases, pictured_fits}
use Rattle.agreement.specs.Agreement.{ChartConfiguration, named}
use Rattle.agreement.proofs.Relation.{Pending, entry_pair, owes, owes_all, Concerns, Hearing, IsPending, Placed}
use Rattle.agreement.proofs.Standing.{Fits}
use Rattle.agreement.proofs.Bearing.{exit_completed}

-- the chart after a step
abbrev pub after_step : Chart → ChartConfiguration → List ℕ → ChartConfiguration
after_step c σ ts = after c (map (transition_at c) ts) σ

-- where the automata are after the transitions have departed
unfoldable pub departed : Chart → ChartConfiguration → List ℕ → ℕ → Place
departed c σ [] q = pictured c σ q
departed c σ (t ∷ ts) q = cond (eqb (home c t) q) (departure c t) (departed c σ ts q)

-- a transition that departed has its exit to make, or else its entry
abbrev pub pending_of : Chart → ℕ → Pending
pending_of c t = record { transition = t; leaving = has_exit c t }

unfoldable pub departing : Chart → List ℕ → List Pending
departing c ts = map (pending_of c) (keep (λ t. has_exit c t || has_entry c t) ts)

-- what is owed is what the transitions name
pub departing_owes : (c : Chart) (ts : List ℕ) → named c ts ≡ owes_all c (departing c ts)
unfolding departing owes_all owes named keep
departing_owes c [] = refl
departing_owes c (t ∷ ts) = go (has_exit c t) (has_entry c t) refl refl (departing_owes c ts)
  where
    rest : List ℕ
    rest = keep (λ t. has_exit c t || has_entry c t) ts

    go : (a b : Bool) → has_exit c t ≡ a → has_entry c t ≡ b → named c ts ≡ owes_all c (map (pending_of c) rest)
        → cond a 1 0 + cond b 1 0 + named c ts ≡ owes_all c (map (pending_of c) (cond (a || b) (t ∷ rest) rest))
    go true b i j e = rw (i, j) (omega arith)
    go false true i j e = rw i (omega arith)
    go false false i j e = omega arith

module _ (c : Chart) (σ : ChartConfiguration) where
  pub departed_home : (ts : List ℕ) {t : ℕ} → ((u : ℕ) → Mem u ts → home c u ≡ home c t → u ≡ t) → Mem t ts → departed c σ ts (home c t) ≡ departure c t
  unfolding departed
  departed_home (u ∷ us) {t} f m = elim (ℕ_discrete (home c u) (home c t)) [
    | yes e ↦ cond_yes _ _ (eq-eqb (home c u) (home c t) e) ∙ ap (departure c) (f u (here refl) e)
    | no d ↦ cond_no _ _ (ne_eqb (home c u) (home c t) d) ∙ departed_home us (λ w k. f w (there k)) (⊎_elim (λ e. absurd (d (ap (home c) (sym e)))) (λ k. k) (cases_cons m))
  ]
  departed_home [] {t = t} f m = elim m [ ]

  pub departed_other : (ts : List ℕ) (q : ℕ) → ((u : ℕ) → Mem u ts → home c u ≡ q → ⊥) → departed c σ ts q ≡ pictured c σ q
  unfolding departed
  departed_other [] q f = refl
  departed_other (u ∷ us) q f = cond_no _ _ (ne_eqb (home c u) q (f u (here refl))) ∙ departed_other us q (λ w k. f w (there k))

-- q is the home of a transition, or of none
pub home_cases : (c : Chart) (ts : List ℕ) (q : ℕ) → ((t : ℕ) × Mem t ts × (home c t ≡ q)) ⊎ ((u : ℕ) → Mem u ts → home c u ≡ q → ⊥)
home_cases c ts q = ⊎_elim
    (λ h. let r = any_at _ ts h in inl (r.0, r.1, eqb-true (home c r.0) q r.2))
    (λ h. inr (λ u m e. eqb-false (home c u) q (any_none _ ts h m) e))
    (decided (any (λ t. eqb (home c t) q) ts))

module _ (c : Chart) (passed : Passed c) (ranges : Ranges c) where
  -- no sequential state is at or below a basic one
  pub none_below_basic : (b q : ℕ) → Region c q → basic c b ≡ true → under c b q ≡ true → ⊥
  none_below_basic b q g z u = clash (ap (basic c) (basic_under c passed.tree b q g.known z u) ∙ z) (sequential_not_basic c q g.is_sequential)

  module _ (σ : ChartConfiguration) (tree : is_tree c σ ≡ true) (ts : List ℕ) (together : Together c σ ts) where
    one_home : (t u : ℕ) → Mem t ts → Mem u ts → home c u ≡ home c t → u ≡ t
    one_home t u m n e = together.homes u t n m (ap (λ (x : ℕ). under c x (home c t)) e ∙ under_refl c (home c t))

    pub departed_at : (t : ℕ) → Mem t ts → departed c σ ts (home c t) ≡ departure c t
    departed_at t m = departed_home c σ ts (λ u n e. one_home t u m n e) m

    pub departed_fits : Fits c (departed c σ ts)
    departed_fits q g = ⊎_elim
        (λ k. subst (λ (x : ℕ). PlaceOf c x (departed c σ ts x)) k.2 (subst (PlaceOf c (home c k.0)) (sym (departed_at k.0 k.1)) (departure_place c passed ranges k.0 (together.each_known k.0 k.1))))
        (λ f. subst (PlaceOf c q) (sym (departed_other c σ ts q f)) (pictured_fits c σ tree q g))
        (home_cases c ts q)

    -- an automaton below a source or a destination is where the picture has it
    below_source_still : (t r : ℕ) → Mem t ts → under c (transition_at c t).source r ≡ true → departed c σ ts r ≡ pictured c σ r
    below_source_still t r m u = departed_other c σ ts r (λ w n e. source_not_above c passed ranges σ tree ts together t w m n (ap (under c (transition_at c t).source) e ∙ u))

    below_destination_still : (t r : ℕ) → Mem t ts → under c (transition_at c t).destination r ≡ true → departed c σ ts r ≡ pictured c σ r
    below_destination_still t r m u = departed_other c σ ts r (λ w n e. destination_not_above c passed ranges σ tree ts together t w m n (ap (under c (transition_at c t).destination) e ∙ u))

    module _ (active : (t : ℕ) → Mem t ts → active_transition c σ (transition_at c t) ≡ true) where
      -- below the source of a transition with an exit: idle, or at a child that hears it
      below_source : (t r : ℕ) → Mem t ts → has_exit c t ≡ true → Region c r → under c (transition_at c t).source r ≡ true
          → (departed c σ ts r ≡ idle r) ⊎ Hearing c (departed c σ ts) (pending_of c t) r
      unfolding marks_below
      below_source t r m x g u = ⊎_elim
          (λ k. inl (below_source_still t r m u ∙ k.1))
          (λ k. let b = active_basic c passed.tree (is_active σ) (tree_at c σ tree) (kinds_left c (kinds_of ranges)) (size c) k.0 (omega arith) k.1.known k.2 in
          inr (record {
            still = x;
            below_source = u;
            at = k.0;
            is_child_lem = k.1;
            hears = any_by _ (states_by c b.1) (both b.2 (both b.4 (completed_at c σ (transition_at c t).source (transition_at c t).exit (exit_completed c passed ranges σ tree t (together.each_known t m) (active t m) x)
                b.0 b.1 b.3 b.2 (below_all r k.0 b.0 b.1 u k.1 b.4))));
            stands = below_source_still t r m u ∙ k.3;
          }))
          (pictured_cases c σ tree g)
        where
          below_all : (r s b : ℕ) → b < size c → under c (transition_at c t).source r ≡ true → Child c r s → under c s b ≡ true → under c (transition_at c t).source b ≡ true
          below_all r s b h v k w = under_transitive c passed.tree _ r b h v (under_transitive c passed.tree r s b h (child_under c passed.tree k) w)

      -- below the destination: below the source too, or idle
      below_destination : (t r : ℕ) → Mem t ts → Region c r → under c (transition_at c t).destination r ≡ true → (under c (transition_at c t).source r ≡ true) ⊎ (departed c σ ts r ≡ idle r)
      below_destination t r m g u = ⊎_elim
          (λ a. inl (ap (λ (x : ℕ). under c x r) (sym (destination_was_source c passed ranges σ tree ts together t m (active_above c passed.tree (is_active σ) (tree_at c σ tree) _ r g.known u a))) ∙ u))
          (λ a. inr (below_destination_still t r m u ∙ pictured_idle c σ r a))
          (decided (is_active σ r))

      -- so a transition that departed is pending, if it names an exit or an entry
      pub departing_pending : (t : ℕ) → Mem t ts → (has_exit c t || has_entry c t) ≡ true → IsPending c (after_step c σ ts) (departed c σ ts) (pending_of c t)
      unfolding departure arrival
      departing_pending t m k = record {
        known = h;
        leaves = λ x. x;
        enters = λ x. or_else (has_exit c t) (has_entry c t) k x;
        arrived = λ s u. next_below c passed ranges σ tree ts together t m s (known_below c (omega (arith, ranges.states_few)) _ s (ends c passed ranges t h).to.known u) u;
        home_at = departed_at t m ∙ at (has_exit c t) (has_entry c t) k;
        below_at = λ r g. ⊎_elim (λ u. from_source r g u) (λ u. ⊎_elim (λ v. from_source r g v) (λ e. inl e) (below_destination t r m g u));
      }
        where
          h : t < length c.transitions
          h = together.each_known t m

          at : (a b : Bool) → (a || b) ≡ true → cond a (post t) (cond b (pre (entry_pair c t)) (child (transition_at c t).destination)) ≡ cond a (post t) (pre (entry_pair c t))
          at true b k = refl
          at false true k = refl
          at false false k = clash k refl

          from_source : (r : ℕ) → Region c r → under c (transition_at c t).source r ≡ true → (departed c σ ts r ≡ idle r) ⊎ Hearing c (departed c σ ts) (pending_of c t) r
          from_source r g u = ⊎_elim (λ x. below_source t r m x g u) (λ x. absurd (none_below_basic _ r g (source_basic c passed ranges t h x) u)) (decided (has_exit c t))

      no_exit : (t : ℕ) → (has_exit c t || has_entry c t) ≡ false → has_exit c t ≡ false
      no_exit t k = fails (has_exit c t) (λ e. clash (or_l _ e) k)

      no_entry : (t : ℕ) → (has_exit c t || has_entry c t) ≡ false → has_entry c t ≡ false
      no_entry t k = fails (has_entry c t) (λ e. clash (or_r (has_exit c t) e) k)

      departing_by : {t : ℕ} → Mem t ts → (has_exit c t || has_entry c t) ≡ true → Mem (pending_of c t) (departing c ts)
      unfolding departing
      departing_by m k = map_by (pending_of c) (keep_by (λ t. has_exit c t || has_entry c t) ts m k)

      departing_at : (p : Pending) → Mem p (departing c ts) → (t : ℕ) × Mem t ts × ((has_exit c t || has_entry c t) ≡ true) × (p ≡ pending_of c t)
      unfolding departing
      departing_at p m = let k = map_at (pending_of c) (keep (λ t. has_exit c t || has_entry c t) ts) m in let l = keep_at (λ t. has_exit c t || has_entry c t) ts k.1 in (k.0, l.0, l.1, k.2)

      -- a sequential state that no pending transition concerns
      module _ (q : ℕ) (g : Region c q) (clear : (p : Pending) → Mem p (departing c ts) → (q ≡ home c p.transition → ⊥) × (Concerns c p q → ⊥)) where
        not_below_source : (t : ℕ) → Mem t ts → under c (transition_at c t).source q ≡ true → ⊥
        not_below_source t m u = ⊎_elim
            (λ k. (clear (pending_of c t) (departing_by m k)).1 (inl u))
            (λ k. none_below_basic _ q g (source_basic c passed ranges t (together.each_known t m) (no_exit t k)) u)
            (decided (has_exit c t || has_entry c t))

        not_below_destination : (t : ℕ) → Mem t ts → under c (transition_at c t).destination q ≡ true → ⊥
        not_below_destination t m u = ⊎_elim
            (λ k. (clear (pending_of c t) (departing_by m k)).1 (inr u))
            (λ k. none_below_basic _ q g (destination_basic c passed ranges t (together.each_known t m) (no_entry t k)) u)
            (decided (has_exit c t || has_entry c t))

        next_tree : is_tree c (after_step c σ ts) ≡ true
        next_tree = together_tree c passed ranges σ ts tree together

        -- the home of a transition without exit and entry is at its destination
        at_destination : (t : ℕ) → Mem t ts → home c t ≡ q → departed c σ ts q ≡ pictured c (after_step c σ ts) q
        unfolding departure arrival
        at_destination t m e = ⊎_elim
            (λ k. absurd ((clear (pending_of c t) (departing_by m k)).0 (sym e)))
            (λ k. let f = together_fires c passed ranges σ ts together t m in
            ap (departed c σ ts) (sym e) ∙ departed_at t m
            ∙ cond_no _ _ (no_exit t k) ∙ cond_no _ _ (no_entry t k)
            ∙ sym (pictured_child c (after_step c σ ts) next_tree g (subst (λ (x : ℕ). Child c x (transition_at c t).destination) e (ends c passed ranges t (together.each_known t m)).to)
            (next_entered c passed ranges σ tree ts together t m _ f.to.known (entered_top c passed.tree passed.entry_marks_lem _ f.to.known f.entry_is))))
            (decided (has_exit c t || has_entry c t))

        -- any other is where it was
        stays_pictured : ((u : ℕ) → Mem u ts → home c u ≡ q → ⊥) → pictured c σ q ≡ pictured c (after_step c σ ts) q
        unfolding home
        stays_pictured w = ⊎_elim
            (λ k. k.1 ∙ sym (pictured_idle c (after_step c σ ts) q (fails (is_active (after_step c σ ts) q) (λ a. ⊎_elim
            (λ l. clash l.0 k.0)
            (λ l. let f = together_fires c passed ranges σ ts together l.0 l.1 in not_below_destination l.0 l.1 (entered_under c passed.tree passed.entry_marks_lem _ f.to.known q f.entry_is l.2))
            (next_cases c passed ranges σ tree ts together q a)))))
            (λ k. k.3 ∙ sym (pictured_child c (after_step c σ ts) next_tree g k.1 (stays_active c passed ranges σ tree ts together k.0 k.1.known k.2 (clear_child k.0 k.1))))
            (pictured_cases c σ tree g)
          where
            clear_child : (s : ℕ) → Child c q s → (t : ℕ) → Mem t ts → under c (transition_at c t).source s ≡ true → ⊥
            clear_child s k t m u = elim (ℕ_discrete s (transition_at c t).source) [
              | yes e ↦ w t m (ap (parent_of c) (sym e) ∙ k.parent_is)
              | no d ↦ not_below_source t m (ap (under c (transition_at c t).source) (sym k.parent_is) ∙ (under_down c passed.tree _ s k.known d u).1)
            ]

        other_is : departed c σ ts q ≡ pictured c (after_step c σ ts) q
        other_is = ⊎_elim (λ k. at_destination k.0 k.1 k.2) (λ w. departed_other c σ ts q w ∙ stays_pictured w) (home_cases c ts q)

      -- the places after the transitions have departed, and what is pending then
      pub departed_placed : Once ts → Placed c (after_step c σ ts) (departed c σ ts) (departing c ts)
      unfolding departing
      departed_placed o = record {
        each = λ p m. let k = departing_at p m in subst (IsPending c (after_step c σ ts) (departed c σ ts)) (sym k.3) (departing_pending k.0 k.1 k.2);
        apart = λ p r m n u.
            let k = departing_at p m in
            let l = departing_at r n in
            k.3 ∙ ap (pending_of c) (together.homes k.0 l.0 k.1 l.1 (ap (λ (x : Pending). under c (home c x.transition) (home c l.0)) (sym k.3) ∙ ap (λ (x : Pending). under c (home c p.transition) (home c x.transition)) (sym l.3) ∙ u)) ∙ sym l.3;
        once = map_once (pending_of c) (keep (λ t. has_exit c t || has_entry c t) ts) (λ x y e. ap (λ (p : Pending). p.transition) e) (once_keep (λ t. has_exit c t || has_entry c t) ts o);
        others = other_is;
      }
