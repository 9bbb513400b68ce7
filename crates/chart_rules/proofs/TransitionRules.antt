-- What rules and ranges say of a transition.
use mathlib.Core.Path.{◌≡◌, sym, ◌∙◌}
use mathlib.Core.Bool.{true, not, ◌&&◌}
use mathlib.Core.Logic.{◌⊎◌, inl, inr, ⊎_elim, ◌≢◌}
use mathlib.Core.List.{Memᴰ as Mem}
use Prim.Native.Nat.{ℕ, ◌+◌, ◌<◌}
use native.Mathlib.Decide.{ℕ_discrete}
use borrow.Author.Tests.{eqb-true, eqb-false, eq-eqb, ne_eqb, ltb-true, not-true}
use lib.Dec.{eqb}
use lib.ListN.{length}
use Rattle.lists.specs.Lists.{has}
use Rattle.labels.specs.Label.{channel_fits}
use Rattle.lists.proofs.Bools.{parts, clash, decided, both, cond_yes, cond_no, not_yes}
use Rattle.lists.proofs.Lists.{all_at, get_d_mem}
use Rattle.lists.proofs.Below.{all_below}
use Rattle.chart_records.specs.Chart.{Chart, Transition, state_at, transition_at, parent_of, basic, sequential, home}
use Rattle.chart_records.specs.Tree.{under}
use Rattle.chart_records.specs.Rules.{siblings, entries, apart}
use Rattle.chart_records.proofs.Entered.{Entry}
use Rattle.chart_records.proofs.Rules.{Passed}
use Rattle.chart_records.proofs.Ranges.{Ranges}

-- 10 of a transition: its source and its destination are children of one sequential state
pub record Siblings (c : Chart) (t : Transition) : Type 0 where
  pub source_below : t.source ≢ 0
  pub destination_below : t.destination ≢ 0
  pub same_parent : parent_of c t.source ≡ parent_of c t.destination
  pub home_sequential : sequential c (parent_of c t.source) ≡ true

pub siblings_at : (c : Chart) (t : Transition) → siblings c t ≡ true → Siblings c t
unfolding siblings
siblings_at c t h = record {
  source_below = eqb-false t.source 0 (not-true _ (search parts));
  destination_below = eqb-false t.destination 0 (not-true _ (search parts));
  same_parent = eqb-true (parent_of c t.source) (parent_of c t.destination) (search parts);
  home_sequential = search parts;
}

-- 12 of a transition: how its destination is entered
pub entry_at : (c : Chart) (t : Transition) → ((t.entry < c.entries) ⊎ (t.entry ≡ 255)) → entries c t ≡ true → Entry c t.destination t.entry
unfolding entries
entry_at c t range h = ⊎_elim
    (λ b. inl (b, eqb-true t.entry 255 (sym (cond_yes (eqb t.entry 255) _ b) ∙ h)))
    (λ b. let k = sym (cond_no (eqb t.entry 255) (not (eqb t.entry 255) && has (state_at c t.destination).entries t.entry) b) ∙ h in
    let n = eqb-false t.entry 255 (not-true _ (search parts)) in
    inr (n, ⊎_elim (λ l. l) (λ e. absurd (n e)) range, search parts))
    (decided (basic c t.destination))

-- a known transition is one of the chart's
pub transition_mem : (c : Chart) (m : ℕ) → m < length c.transitions → Mem (transition_at c m) c.transitions
unfolding transition_at
transition_mem c m h = get_d_mem c.transitions m _ h

-- one that signals does so on a channel of the chart
pub channel_lt : (c : Chart) → Ranges c → (t : ℕ) → t < length c.transitions → (transition_at c t).label.signal ≢ 0 → (transition_at c t).label.channel < c.rendezvous + c.broadcasts
unfolding channel_fits
channel_lt c ranges t h d =
    ltb-true _ _ (sym (cond_no _ _ (ne_eqb (transition_at c t).label.signal 0 d)) ∙ (ranges.of_transition _ (transition_mem c t h)).label_known.channel_known)

-- how one enters its destination
pub entry_of : (c : Chart) → Passed c → Ranges c → (t : ℕ) → t < length c.transitions → Entry c (transition_at c t).destination (transition_at c t).entry
entry_of c passed ranges t h = let m = transition_mem c t h in entry_at c (transition_at c t) (ranges.of_transition _ m).entry_known (all_at _ _ passed.enter m)

-- 14: two transitions of one channel, one's home above the other's, have one home
pub apart_at : (c : Chart) → apart c ≡ true → (t u : ℕ) → t < length c.transitions → u < length c.transitions
    → (transition_at c t).label.signal ≢ 0 → (transition_at c u).label.signal ≢ 0 → (transition_at c t).label.channel ≡ (transition_at c u).label.channel → under c (home c t) (home c u) ≡ true → home c t ≡ home c u
unfolding apart
apart_at c h t u i j a b e v = elim (ℕ_discrete (home c t) (home c u)) [
  | yes z ↦ z
  | no d ↦ clash (both (not_yes (ne_eqb (transition_at c t).label.signal 0 a)) (both (not_yes (ne_eqb (transition_at c u).label.signal 0 b)) (both (eq-eqb (transition_at c t).label.channel (transition_at c u).label.channel e) (both (not_yes (ne_eqb (home c t) (home c u) d)) v))))
      (not-true _ (all_below _ _ (all_below _ _ h t i) u j))
]
