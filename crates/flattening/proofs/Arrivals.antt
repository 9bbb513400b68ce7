-- The places that a transition goes through, and those where automata start. Each is of the transition's home, or of the
-- automaton that starts: `source_place`, `post_place`, `pre_place`, `arrival_place`, `departure_place`, `initial_place_lem`.
use mathlib.Core.Path.{◌≡◌, refl, sym, subst}
use mathlib.Core.Bool.{Bool, true, false, cond, not, beq}
use mathlib.Core.Logic.{⊎_elim, ◌≢◌}
use mathlib.Core.List.{Memᴰ as Mem}
use Prim.Native.Nat.{ℕ, ◌<◌}
use native.Mathlib.Omega.{arith}
use borrow.Author.Tests.{eqb-true, eqb-false, not-true}
use lib.Dec.{eqb}
use lib.ListN.{length}
use Rattle.lists.proofs.Bools.{clash}
use Rattle.lists.proofs.Lists.{all_at}
use Rattle.chart_records.specs.Chart.{Chart, transition_at, basic, home}
use Rattle.chart_records.specs.Tree.{entered}
use Rattle.chart_records.specs.Rules.{exits}
use Rattle.chart_records.proofs.Tree.{Child, own_child}
use Rattle.chart_records.proofs.Entered.{entered_marked}
use Rattle.chart_records.proofs.Rules.{Passed}
use Rattle.chart_records.proofs.Ranges.{Ranges}
use Rattle.chart_rules.proofs.TransitionRules.{siblings_at, transition_mem, entry_of}
use Rattle.flattening.specs.Flatten.{idle, child, pre, post, has_exit, has_entry, exit_pairs, enter_pairs, arrival, departure, place_home, marked_child, initial_place}
use Rattle.flattening.proofs.Automata.{Region, marked_child_lem}
use Rattle.flattening.proofs.Numbers.{PlaceOf, idle_place, child_place}
use Rattle.flattening.proofs.Channels.{enters_by_lem, leaves_by_lem, enter_pairs_by, exit_pairs_by}

-- an entry, and none
pub has_entry_at : (c : Chart) (t : ℕ) → has_entry c t ≡ true → (transition_at c t).entry ≢ 255
unfolding has_entry
has_entry_at c t h = eqb-false (transition_at c t).entry 255 (not-true _ h)

pub no_entry_at : (c : Chart) (t : ℕ) → has_entry c t ≡ false → (transition_at c t).entry ≡ 255
unfolding has_entry
no_entry_at c t h = eqb-true (transition_at c t).entry 255 (go (eqb (transition_at c t).entry 255) h)
  where
    go : (b : Bool) → not b ≡ false → b ≡ true
    go true h = refl
    go false h = clash refl h

-- a transition goes from a child of its home to a child of its home
pub record Ends (c : Chart) (t : ℕ) : Type 0 where
  pub region : Region c (home c t)
  pub from : Child c (home c t) (transition_at c t).source
  pub to : Child c (home c t) (transition_at c t).destination

module _ (c : Chart) (passed : Passed c) (ranges : Ranges c) where
  pub ends : (t : ℕ) → t < length c.transitions → Ends c t
  unfolding home
  ends t h =
      let m = transition_mem c t h in
      let r = ranges.of_transition (transition_at c t) m in
      let s = siblings_at c (transition_at c t) (all_at _ _ passed.transitions m) in
      record {
        region = record { known = omega (arith, passed.tree.smaller (transition_at c t).source r.source_known s.source_below, r.source_known); is_sequential = s.home_sequential };
        from = record { known = r.source_known; below_root = s.source_below; parent_is = refl };
        to = record { known = r.destination_known; below_root = s.destination_below; parent_is = sym s.same_parent };
      }

  -- 11: an exit just where the source is composite; 12: an entry just where the destination is
  pub source_composite : (t : ℕ) → t < length c.transitions → has_exit c t ≡ true → basic c (transition_at c t).source ≡ false
  unfolding has_exit exits
  source_composite t h e = go (basic c (transition_at c t).source) (eqb (transition_at c t).exit 255) (all_at (exits c) _ passed.leave (transition_mem c t h)) e
    where
      go : (b x : Bool) → beq b x ≡ true → not x ≡ true → b ≡ false
      go true true k l = clash l refl
      go true false k l = clash k refl
      go false x k l = refl

  pub source_basic : (t : ℕ) → t < length c.transitions → has_exit c t ≡ false → basic c (transition_at c t).source ≡ true
  unfolding has_exit exits
  source_basic t h e = go (basic c (transition_at c t).source) (eqb (transition_at c t).exit 255) (all_at (exits c) _ passed.leave (transition_mem c t h)) e
    where
      go : (b x : Bool) → beq b x ≡ true → not x ≡ false → b ≡ true
      go true x k l = refl
      go false true k l = clash k refl
      go false false k l = clash refl l

  pub destination_basic : (t : ℕ) → t < length c.transitions → has_entry c t ≡ false → basic c (transition_at c t).destination ≡ true
  destination_basic t h e = ⊎_elim (λ k. k.0) (λ k. absurd (k.0 (no_entry_at c t e))) (entry_of c passed ranges t h)

  -- its exit and its entry, if it has one
  pub exit_lt : (t : ℕ) → t < length c.transitions → has_exit c t ≡ true → (transition_at c t).exit < c.exits
  unfolding has_exit
  exit_lt t h e = ⊎_elim (λ l. l) (λ z. absurd (eqb-false (transition_at c t).exit 255 (not-true _ e) z)) (ranges.of_transition (transition_at c t) (transition_mem c t h)).exit_known

  pub entry_lt : (t : ℕ) → t < length c.transitions → has_entry c t ≡ true → (transition_at c t).entry < c.entries
  entry_lt t h e = ⊎_elim (λ l. l) (λ z. absurd (has_entry_at c t e z)) (ranges.of_transition (transition_at c t) (transition_mem c t h)).entry_known

  pub exit_pair_lem : (t : ℕ) → t < length c.transitions → has_exit c t ≡ true → Mem (record { state = (transition_at c t).source; mark = (transition_at c t).exit }) (exit_pairs c)
  exit_pair_lem t h e = exit_pairs_by c _ (ends t h).from.known (exit_lt t h e) (leaves_by_lem c t h)

  pub enter_pair : (t : ℕ) → t < length c.transitions → has_entry c t ≡ true → Mem (record { state = (transition_at c t).destination; mark = (transition_at c t).entry }) (enter_pairs c)
  enter_pair t h e = enter_pairs_by c _ (ends t h).to.known (entry_lt t h e) (enters_by_lem c t h)

  -- its places
  pub source_place : (t : ℕ) → t < length c.transitions → PlaceOf c (home c t) (child (transition_at c t).source)
  source_place t h = child_place c (ends t h).region (ends t h).from

  pub post_place : (t : ℕ) → t < length c.transitions → has_exit c t ≡ true → PlaceOf c (home c t) (post t)
  unfolding place_home
  post_place t h e = record { is_place = record { region = (ends t h).region; stands = (h, e) }; home_is = refl }

  pub pre_place : (t : ℕ) → t < length c.transitions → has_entry c t ≡ true → PlaceOf c (home c t) (pre (record { state = (transition_at c t).destination; mark = (transition_at c t).entry }))
  unfolding place_home
  pre_place t h e =
      let k = (ends t h).to in
      record {
        is_place = record { region = subst (Region c) (sym k.parent_is) (ends t h).region; stands = (own_child c k.known k.below_root, entry_lt t h e, enters_by_lem c t h) };
        home_is = k.parent_is;
      }

  pub arrival_place : (t : ℕ) → t < length c.transitions → PlaceOf c (home c t) (arrival c t)
  unfolding arrival
  arrival_place t h = go (has_entry c t) refl
    where
      go : (b : Bool) → has_entry c t ≡ b → PlaceOf c (home c t) (cond b (pre (record { state = (transition_at c t).destination; mark = (transition_at c t).entry })) (child (transition_at c t).destination))
      go true e = pre_place t h e
      go false e = child_place c (ends t h).region (ends t h).to

  pub departure_place : (t : ℕ) → t < length c.transitions → PlaceOf c (home c t) (departure c t)
  unfolding departure
  departure_place t h = go (has_exit c t) refl
    where
      go : (b : Bool) → has_exit c t ≡ b → PlaceOf c (home c t) (cond b (post t) (arrival c t))
      go true e = post_place t h e
      go false e = arrival_place t h

  -- where an automaton starts
  pub initial_place_lem : {q : ℕ} → Region c q → PlaceOf c q (initial_place c q)
  unfolding initial_place
  initial_place_lem {q} g = go (entered c 0 0 q) refl
    where
      go : (b : Bool) → entered c 0 0 q ≡ b → PlaceOf c q (cond b (child (marked_child c q 0)) (idle q))
      go true e = child_place c g (marked_child_lem c passed.entry_marks_lem q 0 g ranges.entries_some (entered_marked c passed.tree passed.entry_marks_lem 0 (omega (arith, ranges.states_some)) q (omega arith) e)).0
      go false e = idle_place c g
