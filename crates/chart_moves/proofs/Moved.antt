-- What is active after transitions that are taken together: what was active and lies below no source, and what is entered.
-- No source and no destination lies above a home; below a destination just what is entered is active.
use mathlib.Core.Path.{◌≡◌, sym, ap, ◌∙◌, subst}
use mathlib.Core.Bool.{true, not, ◌&&◌}
use mathlib.Core.Logic.{◌⊎◌, inl, inr, ⊎_elim}
use mathlib.Core.List.{List, map, Memᴰ as Mem}
use Prim.Native.Nat.{ℕ, ◌+◌, ◌<◌}
use borrow.Author.Tests.{lt-ltb, not-true}
use lib.Dec.{ltb}
use Rattle.lists.specs.Lists.{all}
use Rattle.updates.specs.Update.{Update, form_of, writes}
use Rattle.labels.specs.Label.{limits, Label}
use Rattle.clocks.specs.Clocks.{in_limit, zero_past, zeros_past}
use Rattle.lists.proofs.Bools.{parts, clash, fails, and_l, and_r, both, or_l, or_cases, same, not_yes}
use Rattle.lists.proofs.Lists.{all_at, all_by, any_at, map_at, map_by}
use Rattle.labels.proofs.LabelRanges.{LabelRange, updates_known}
use Rattle.steps.proofs.Kept.{zeros_past_after, in_limit_after, zero_past_after}
use Rattle.chart_records.specs.Chart.{Chart, Transition, transition_at, parent_of, home}
use Rattle.chart_records.specs.Tree.{under, entered}
use Rattle.chart_moves.specs.Machine.{is_active, is_tree, is_configuration, bounds_kept, after, active_after}
use Rattle.chart_moves.specs.declared.configuration.Configuration.{Configuration}
use Rattle.chart_records.proofs.Tree.{size}
use Rattle.chart_records.proofs.Entered.{entered_under}
use Rattle.chart_moves.proofs.Active.{tree_at, active_known}
use Rattle.chart_records.proofs.Rules.{Passed}
use Rattle.chart_records.proofs.Ranges.{Ranges}
use Rattle.chart_moves.proofs.After.{Fires, after_active, after_entered, free_of_source, free_of_destination, destination_active, destinations_same, stays_clear, home_stays}
use Rattle.chart_moves.proofs.Step.{Together, together_fires, together_tree}
use Rattle.chart_rules.proofs.TransitionRules.{transition_mem}

module _ (c : Chart) (passed : Passed c) (ranges : Ranges c) (σ : Configuration) (tree : is_tree c σ ≡ true) (ts : List ℕ) (together : Together c σ ts) where
  abbrev next : Configuration
  next = after c (map (transition_at c) ts) σ

  -- the transitions by themselves, as After has them
  fires : (t : Transition) → Mem t (map (transition_at c) ts) → Fires c (is_active σ) t
  fires t m = let k = map_at (transition_at c) ts m in subst (Fires c (is_active σ)) (sym k.2) (together_fires c passed ranges σ ts together k.0 k.1)

  not_nested : (t u : Transition) → Mem t (map (transition_at c) ts) → Mem u (map (transition_at c) ts) → under c (parent_of c t.source) (parent_of c u.source) ≡ true → t ≡ u
  unfolding home
  not_nested t u m n v =
      let k = map_at (transition_at c) ts m in
      let l = map_at (transition_at c) ts n in
      k.2 ∙ ap (transition_at c) (together.homes k.0 l.0 k.1 l.1
      (ap (λ (x : Transition). under c (parent_of c x.source) (parent_of c (transition_at c l.0).source)) (sym k.2)
      ∙ ap (λ (x : Transition). under c (parent_of c t.source) (parent_of c x.source)) (sym l.2) ∙ v)) ∙ sym l.2

  -- no source and no destination lies above a home
  pub source_not_above : (t u : ℕ) → Mem t ts → Mem u ts → under c (transition_at c t).source (home c u) ≡ true → ⊥
  unfolding home
  source_not_above t u m n v = free_of_source c passed.tree passed.entry_marks_lem (is_active σ) (tree_at c σ tree) (map (transition_at c) ts) fires not_nested _ _ (map_by (transition_at c) n) (map_by (transition_at c) m) v

  pub destination_not_above : (t u : ℕ) → Mem t ts → Mem u ts → under c (transition_at c t).destination (home c u) ≡ true → ⊥
  unfolding home
  destination_not_above t u m n v = free_of_destination c passed.tree passed.entry_marks_lem (is_active σ) (tree_at c σ tree) (map (transition_at c) ts) fires not_nested _ _ (map_by (transition_at c) n) (map_by (transition_at c) m) v

  -- a destination that was active is the source
  pub destination_was_source : (t : ℕ) → Mem t ts → is_active σ (transition_at c t).destination ≡ true → (transition_at c t).destination ≡ (transition_at c t).source
  destination_was_source t m a = destination_active c passed.tree passed.entry_marks_lem (is_active σ) (tree_at c σ tree) (map (transition_at c) ts) fires not_nested _ (map_by (transition_at c) m) a

  -- what was active and lies below no source stays active
  pub stays_active : (s : ℕ) → s < size c → is_active σ s ≡ true → ((t : ℕ) → Mem t ts → under c (transition_at c t).source s ≡ true → ⊥) → is_active next s ≡ true
  unfolding active_after
  stays_active s h a f = after_active c σ (map (transition_at c) ts) ranges.states_few s ∙ both (lt-ltb s (size c) h) (or_l _ (both a (all_by (λ t. not (under c t.source s)) _ (λ t m.
      let k = map_at (transition_at c) ts m in not_yes (fails (under c t.source s) (λ u. f k.0 k.1 (ap (λ (x : Transition). under c x.source s) (sym k.2) ∙ u)))))))

  -- and with what is entered that is all
  pub next_cases : (s : ℕ) → is_active next s ≡ true
      → ((is_active σ s ≡ true) × ((t : ℕ) → Mem t ts → under c (transition_at c t).source s ≡ true → ⊥))
      ⊎ ((t : ℕ) × Mem t ts × (entered c (transition_at c t).destination (transition_at c t).entry s ≡ true))
  unfolding active_after
  next_cases s h = ⊎_elim
      (λ k. inl (and_l (is_active σ s) _ k, λ t m u. clash u (not-true _ (all_at (λ t. not (under c t.source s)) (map (transition_at c) ts) (and_r (is_active σ s) _ k) (map_by (transition_at c) m)))))
      (λ k. let r = any_at _ (map (transition_at c) ts) k in let l = map_at (transition_at c) ts r.1 in inr (l.0, l.1, ap (λ (x : Transition). entered c x.destination x.entry s) (sym l.2) ∙ r.2))
      (or_cases (is_active σ s && all (λ t. not (under c t.source s)) (map (transition_at c) ts)) _ (and_r (ltb s (size c)) _ (sym (after_active c σ (map (transition_at c) ts) ranges.states_few s) ∙ h)))

  pub next_entered : (t : ℕ) → Mem t ts → (s : ℕ) → s < size c → entered c (transition_at c t).destination (transition_at c t).entry s ≡ true → is_active next s ≡ true
  next_entered t m s h e = after_entered c σ (map (transition_at c) ts) ranges.states_few (map_by (transition_at c) m) s h e

  -- below a destination just what is entered is active
  pub next_below : (t : ℕ) → Mem t ts → (s : ℕ) → s < size c → under c (transition_at c t).destination s ≡ true
      → is_active next s ≡ entered c (transition_at c t).destination (transition_at c t).entry s
  next_below t m s h u = same _ _
      (λ a. ⊎_elim
      (λ k. absurd (stays_clear c passed.tree passed.entry_marks_lem (is_active σ) (tree_at c σ tree) (map (transition_at c) ts) fires not_nested s h
      (k.0, λ x n. let l = map_at (transition_at c) ts n in λ v. k.1 l.0 l.1 (ap (λ (x : Transition). under c x.source s) (sym l.2) ∙ v)) _ (map_by (transition_at c) m) u))
      (λ k. let f = together_fires c passed ranges σ ts together k.0 k.1 in
      let e = destinations_same c passed.tree passed.entry_marks_lem (is_active σ) (tree_at c σ tree) (map (transition_at c) ts) fires not_nested _ _ (map_by (transition_at c) m) (map_by (transition_at c) k.1) s h u
      (entered_under c passed.tree passed.entry_marks_lem _ f.to.known s f.entry_is k.2) in
      ap (λ (x : Transition). entered c x.destination x.entry s) e ∙ k.2)
      (next_cases s a))
      (λ a. next_entered t m s h a)

  -- a home stays active
  pub next_home : (t : ℕ) → Mem t ts → is_active next (home c t) ≡ true
  unfolding home
  next_home t m =
      let k = home_stays c passed.tree passed.entry_marks_lem (is_active σ) (tree_at c σ tree) (map (transition_at c) ts) fires not_nested _ (map_by (transition_at c) m) in
      stays_active _ (active_known c (is_active σ) (tree_at c σ tree) _ k.0) k.0 (λ u n v. k.1 _ (map_by (transition_at c) n) v)

  -- a step leads to a configuration, if the bounds are kept
  pub next_configured : is_configuration c σ ≡ true → bounds_kept c next ≡ true → is_configuration c next ≡ true
  unfolding is_configuration after
  next_configured h kept = both (together_tree c passed ranges σ ts tree together)
      (both (zeros_past_after c.variables labels σ.variables assigned ∙ variables)
      (both (in_limit_after c.clocks labels σ.clocks clocks)
      (both (zero_past_after c.clocks labels σ.clocks past) kept)))
    where
      labels : List Label
      labels = map (λ (t : Transition). t.label) (map (transition_at c) ts)

      variables : zeros_past c.variables σ.variables ≡ true
      variables = search parts

      clocks : in_limit c.clocks σ.clocks ≡ true
      clocks = search parts

      past : zero_past c.clocks σ.clocks ≡ true
      past = search parts

      assigned : (l : Label) → Mem l labels → (u : Update) → Mem u l.body.updates → (v : ℕ) → Mem v (writes (form_of u)) → v < c.variables
      assigned l m u k =
          let r = map_at (λ (t : Transition). t.label) (map (transition_at c) ts) m in
          let j = map_at (transition_at c) ts r.1 in
          updates_known (limits c.version c.clocks c.variables) _ l
          (subst (LabelRange (limits c.version c.clocks c.variables) (c.rendezvous + c.broadcasts)) (sym (r.2 ∙ ap (λ (t : Transition). t.label) j.2))
          (ranges.of_transition (transition_at c j.0) (transition_mem c j.0 (together.each_known j.0 j.1))).label_known) u k
