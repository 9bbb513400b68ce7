-- The loops of the check over the states of a chart.
use mathlib.Core.Path.{◌≡◌, refl, sym, ap, ◌∙◌, subst}
use mathlib.Core.Bool.{Bool, true, false, cond, ◌&&◌}
use mathlib.Core.List.{List, [], ◌∷◌}
use Prim.Native.Nat.{ℕ, ◌+◌, ◌^◌, ◌≤◌, ◌<◌}
use native.Mathlib.Omega.{arith}
use native.Mathlib.Decide.{dec_lt}
use borrow.Author.Tests.{lt-leb}
use lib.Bits as Words
use lib.Dec.{leb}
use lib.ListN.{length, drop}
use lib.Pow.{pow_pos}
use Rattle.lists.specs.Lists.{has, all, any, keep, below, implies, subset}
use Rattle.lists.proofs.Bools.{clash}
use Rattle.lists.proofs.Below.{below_by, below_next, below_end}
use Rattle.lists.proofs.Lists.{keep_keep, some_kept, all_same, not_all, all_next, all_stop, any_next, any_stop, counted_next, counted_left, counted_all}
use Rattle.lists.proofs.Bits.{has_zero, has_high, and_apart, and_shared, tally, or_apart}
use Rattle.chart_records.specs.Chart.{Chart, State, state_at, states}
use Rattle.chart_records.specs.Tree.{is_child, children}
use Rattle.chart_records.specs.Rules.{marked, children_marked}
use Rattle.chart_records.specs.Layout.{Stated}
use Rattle.chart_records.specs.declared.header.Counts.{Counts}
use Rattle.chart_records.proofs.Ranges.{counts_range}
use Rattle.chart_records.proofs.States.{unknown, stated_fields}

-- what a loop over the states has left to see
module _ {rest : List ℕ} {n : Counts} {c : Chart} (S : Stated rest n c) (i : ℕ) where
  pub states_next : i < n.states → drop i (states c) ≡ i ∷ drop (i + 1) (states c)
  unfolding states
  states_next h = below_next S.states i h

  pub states_end : n.states ≤ i → drop i (states c) ≡ []
  unfolding states
  states_end h = below_end S.states i h

-- what the code answers of every chart whose states stand in the bytes
abbrev pub Of : {A : Type 0} → List ℕ → Counts → A → (Chart → A) → Type 0
Of rest n r f = (c : Chart) → Stated rest n c → r ≡ f c

-- a loop that tests the elements that each c of H has, where those before i pass
abbrev pub Along : {X A : Type 0} → (X → Type 0) → (X → A → Bool) → (X → List A) → ℕ → Type 0
Along {X} H p xs i = (c : X) → H c → all (p c) (xs c) ≡ all (p c) (drop i (xs c))

module _ {X A : Type 0} (H : X → Type 0) (p : X → A → Bool) (xs : X → List A) where
  pub along_none : Along H p xs 0
  along_none c h = refl

  module _ (i : ℕ) (t : Along H p xs i) where
    module _ (x : X → A) (next : (c : X) → H c → drop i (xs c) ≡ x c ∷ drop (i + 1) (xs c)) {b : Bool} (f : (c : X) → H c → b ≡ p c (x c)) where
      pub along_more : b ≡ true → Along H p xs (i + 1)
      along_more e c h = t c h ∙ all_next (p c) (next c h) (sym (f c h) ∙ e)

      pub along_stop : b ≡ false → (c : X) → H c → false ≡ all (p c) (xs c)
      along_stop e c h = sym (t c h ∙ all_stop (p c) (next c h) (sym (f c h) ∙ e))

    pub along_all : ((c : X) → H c → drop i (xs c) ≡ []) → (c : X) → H c → true ≡ all (p c) (xs c)
    unfolding all
    along_all last c h = sym (t c h ∙ ap (all (p c)) (last c h))

-- of the states
abbrev pub Tested : (Chart → ℕ → Bool) → List ℕ → Counts → ℕ → Type 0
Tested p rest n i = Along (Stated rest n) p states i

module _ (p : Chart → ℕ → Bool) (rest : List ℕ) (n : Counts) where
  pub tested_none : Tested p rest n 0
  tested_none = along_none (Stated rest n) p states

  module _ {i : ℕ} (t : Tested p rest n i) where
    pub tested_more : {b : Bool} → i < n.states → Of rest n b (λ c. p c i) → b ≡ true → Tested p rest n (i + 1)
    tested_more h f e = along_more (Stated rest n) p states i t (λ c. i) (λ c S. states_next S i h) f e

    pub tested_stop : {b : Bool} → i < n.states → Of rest n b (λ c. p c i) → b ≡ false → Of rest n false (λ c. all (p c) (states c))
    tested_stop h f e = along_stop (Stated rest n) p states i t (λ c. i) (λ c S. states_next S i h) f e

    pub tested_all : n.states ≤ i → Of rest n true (λ c. all (p c) (states c))
    tested_all h = along_all (Stated rest n) p states i t (λ c S. states_end S i h)

-- a loop that looks for a state, where none before i is it
abbrev pub Sought : (Chart → ℕ → Bool) → List ℕ → Counts → ℕ → Type 0
Sought p rest n i = (c : Chart) → Stated rest n c → any (p c) (states c) ≡ any (p c) (drop i (states c))

module _ (p : Chart → ℕ → Bool) (rest : List ℕ) (n : Counts) where
  pub sought_none : Sought p rest n 0
  sought_none c S = refl

  module _ {i : ℕ} (t : Sought p rest n i) where
    pub sought_more : {b : Bool} → i < n.states → Of rest n b (λ c. p c i) → b ≡ false → Sought p rest n (i + 1)
    sought_more h f e c S = t c S ∙ any_next (p c) (states_next S i h) (sym (f c S) ∙ e)

    pub sought_stop : {b : Bool} → i < n.states → Of rest n b (λ c. p c i) → b ≡ true → Of rest n true (λ c. any (p c) (states c))
    sought_stop h f e c S = sym (t c S ∙ any_stop (p c) (states_next S i h) (sym (f c S) ∙ e))

    pub sought_all : n.states ≤ i → Of rest n false (λ c. any (p c) (states c))
    unfolding any
    sought_all h c S = sym (t c S ∙ ap (any (p c)) (states_end S i h))

pub child_sought : (c : Chart) (m : ℕ) → leb 1 (length (children c m)) ≡ any (is_child c m) (states c)
unfolding children
child_sought c m = some_kept (is_child c m) (states c)

-- a loop that counts the states that pass, of which k stand before i
abbrev pub Counted : (Chart → ℕ → Bool) → List ℕ → Counts → ℕ → ℕ → Type 0
Counted p rest n k i = (c : Chart) → Stated rest n c → k + length (keep (p c) (drop i (states c))) ≡ length (keep (p c) (states c))

module _ (p : Chart → ℕ → Bool) (rest : List ℕ) (n : Counts) where
  pub counted_none : Counted p rest n 0 0
  counted_none c S = omega arith

  module _ (k : ℕ) {i : ℕ} (t : Counted p rest n k i) where
    pub counted_more : {b : Bool} {j : ℕ} → i < n.states → Of rest n b (λ c. p c i) → b ≡ true → j ≡ k + 1 → Counted p rest n j (i + 1)
    counted_more h f e g c S = counted_next (p c) (states_next S i h) k (t c S) (sym (f c S) ∙ e) g

    pub counted_not : {b : Bool} {j : ℕ} → i < n.states → Of rest n b (λ c. p c i) → b ≡ false → j ≡ k → Counted p rest n j (i + 1)
    counted_not h f e g c S = counted_left (p c) (states_next S i h) k (t c S) (sym (f c S) ∙ e) g

    pub counted_end : n.states ≤ i → Of rest n k (λ c. length (keep (p c) (states c)))
    counted_end h c S = counted_all (p c) k (t c S) (states_end S i h)

-- a state's entry marks are among the declared ones
pub entries_small : {rest : List ℕ} {n : Counts} {c : Chart} → Stated rest n c → (s : ℕ) → (state_at c s).entries < 2 ^ c.entries
entries_small {rest} {n} {c} S s = elim (dec_lt s n.states) [
  | yes h ↦ subst (λ (k : ℕ). (state_at c s).entries < 2 ^ k) (sym S.entries) ((stated_fields rest n S s h).range (counts_range n S.in_range_lem).clocks_few).entries_small
  | no h ↦ subst (λ (x : State). x.entries < 2 ^ c.entries) (sym (unknown S s (omega arith))) (pow_pos c.entries)
]

-- s is a child of m that is marked with e
abbrev marked_child : ℕ → ℕ → Chart → ℕ → Bool
marked_child m e c s = is_child c m s && has (state_at c s).entries e

marked_children : (c : Chart) (m e : ℕ) → marked c m e ≡ length (keep (marked_child m e c) (states c))
unfolding marked children
marked_children c m e = ap length (keep_keep (is_child c m) (λ s. has (state_at c s).entries e) (states c))

-- a loop over the children of m: those before i share no mark, and `seen` has their marks
abbrev pub Seen : ℕ → List ℕ → Counts → ℕ → ℕ → Type 0
Seen m rest n seen i = (c : Chart) → Stated rest n c → (e : ℕ) → tally (has seen e) + length (keep (marked_child m e c) (drop i (states c))) ≡ marked c m e

module _ (m : ℕ) (rest : List ℕ) (n : Counts) where
  pub seen_none : Seen m rest n 0 0
  seen_none c S e = let z : tally (has 0 e) ≡ 0 = ap tally (has_zero e) in omega (arith, z, marked_children c m e)

  module _ (seen : ℕ) {i : ℕ} (t : Seen m rest n seen i) (h : i < n.states) where
    step : {c : Chart} → Stated rest n c → (e : ℕ) → length (keep (marked_child m e c) (drop i (states c))) ≡ tally (marked_child m e c i) + length (keep (marked_child m e c) (drop (i + 1) (states c)))
    unfolding keep
    step {c} S e = ap (λ (l : List ℕ). length (keep (marked_child m e c) l)) (states_next S i h) ∙ go (marked_child m e c i) (keep (marked_child m e c) (drop (i + 1) (states c)))
      where
        go : (b : Bool) (l : List ℕ) → length (cond b (i ∷ l) l) ≡ tally b + length l
        go true l = omega arith
        go false l = omega arith

    pub seen_left : {b : Bool} {later : ℕ} → Of rest n b (λ c. is_child c m i) → b ≡ false → later ≡ seen → Seen m rest n later (i + 1)
    seen_left f e g c S j =
        let z : tally (marked_child m j c i) ≡ 0 = ap (λ (b : Bool). tally (b && has (state_at c i).entries j)) (sym (f c S) ∙ e) in
        ap (λ (x : ℕ). tally (has x j) + length (keep (marked_child m j c) (drop (i + 1) (states c)))) g ∙ omega (arith, z, step S j, t c S j)

    module _ {b : Bool} {marks : ℕ} (f : Of rest n b (λ c. is_child c m i)) (e : b ≡ true) (g : Of rest n marks (λ c. (state_at c i).entries)) where
      child : {c : Chart} → Stated rest n c → (j : ℕ) → tally (marked_child m j c i) ≡ tally (has marks j)
      child {c} S j =
          ap (λ (b : Bool). tally (b && has (state_at c i).entries j)) (sym (f c S) ∙ e)
          ∙ ap (λ (x : ℕ). tally (has x j)) (sym (g c S))

      pub seen_more : {later : ℕ} → Words.bit_and seen marks ≡ 0 → later ≡ Words.bit_or seen marks → Seen m rest n later (i + 1)
      seen_more z q c S j =
          ap (λ (x : ℕ). tally (has x j) + length (keep (marked_child m j c) (drop (i + 1) (states c)))) q
          ∙ omega (arith, or_apart seen marks j (and_apart seen marks z), child S j, step S j, t c S j)

      pub seen_stop : (Words.bit_and seen marks ≡ 0 → ⊥) → Of rest n false (λ c. children_marked c m)
      seen_stop d c S =
          let r = and_shared seen marks d in
          let twice : 2 ≤ marked c m r.0 = omega (arith, ap tally r.1, ap tally r.2, child S r.0, step S r.0, t c S r.0) in
          sym (not_all _ (below_by (declared c S r.0 r.2)) (rw (lt-leb (marked c m r.0) 1 twice)))
        where
          declared : (c : Chart) → Stated rest n c → (j : ℕ) → has marks j ≡ true → j < c.entries
          declared c S j k = elim (dec_lt j c.entries) [ yes l ↦ l | no l ↦ clash k (has_high c.entries marks j (subst (λ (x : ℕ). x < 2 ^ c.entries) (sym (g c S)) (entries_small S i)) (omega arith)) ]

  pub seen_all : (seen : ℕ) {i : ℕ} → Seen m rest n seen i → n.states ≤ i → (c : Chart) → Stated rest n c → children_marked c m ≡ subset c.entries (state_at c m).entries seen
  unfolding subset keep
  seen_all seen {i} t h c S = all_same _ _ (below c.entries) (λ e k. ap (λ (x : ℕ). leb x 1 && implies (has (state_at c m).entries e) (leb 1 x)) (once e) ∙ go (has (state_at c m).entries e) (has seen e))
    where
      once : (e : ℕ) → marked c m e ≡ tally (has seen e)
      once e = let z : length (keep (marked_child m e c) (drop i (states c))) ≡ 0 = ap (λ (l : List ℕ). length (keep (marked_child m e c) l)) (states_end S i h) in omega (arith, z, t c S e)

      go : (a b : Bool) → (leb (tally b) 1 && implies a (leb 1 (tally b))) ≡ implies a b
      go a true = refl
      go a false = refl
