-- The transitions of a move, sorted in a table.
use Rattle.std.proofs.Common.{◌≡◌, ℕ, ◌+◌, ◌-◌, ◌<◌, ◌≤◌, min, Bool, cond, not, eqb, List, ◌∷◌, map, length, get_or, take, drop, refl, ap, ◌∙◌, subst, arith, drop_of_length-le, take-take, eq-eqb, ne_eqb}
use native.Mathlib.Nat.{min-eq_left}
use lib.ListN.{length-map}
use Rattle.lists.specs.Lists.{keep}
use Rattle.lists.proofs.Parts.{drop_next}
use Rattle.lists.proofs.Once.{within_length}
use Rattle.lists.proofs.Ascending.{ascending_once}
use Rattle.network_records.specs.Network.{Network}
use Rattle.network.specs.Bearing.{transition_of, transitions_of}
use Rattle.network.proofs.Borne.{transitions_kept}
use Rattle.flattening.specs.Flatten.{sorted}
use Rattle.flatten_alternatives.specs.Choosing.{Kept}
use Rattle.flattening.proofs.Sums.{sorted_at, sorted_ascending}
use Rattle.flatten_alternatives.proofs.Keeping.{kept_none, kept_at}
use Rattle.agreement.specs.Agreement.{borne, carried}
use Rattle.lists.proofs.Lists.{keep_length}

abbrev pub is_number : ℕ → Bool
is_number t = not (eqb t 255)

-- one transition more, or none
module _ {items : List ℕ} {count t : ℕ} (xs : List ℕ) where
  pub kept_none_more : t ≡ 255 → Kept items count xs → Kept items count (cond (is_number t) (t ∷ xs) xs)
  kept_none_more e k = rw (eq-eqb t 255 e) k

  pub kept_one_more : (t ≡ 255 → ⊥) → Kept items count (t ∷ xs) → Kept items count (cond (is_number t) (t ∷ xs) xs)
  kept_one_more d k = rw (ne_eqb t 255 d) k

-- an array's transitions, from the last to the first
module _ (l : List ℕ) where
  pub kept_first : (items : List ℕ) → length l ≡ 16 → length items ≡ 1024 → Kept items 0 (keep is_number (drop 16 l))
  unfolding keep
  kept_first items e h = rw (drop_of_length-le l {i = 16} (omega arith)) (kept_none items h)

  pub kept_before : {items : List ℕ} {count : ℕ} (i : ℕ) → 0 < i → i ≤ length l → Kept items count (cond (is_number (get_or l (i - 1) 0)) (get_or l (i - 1) 0 ∷ keep is_number (drop i l)) (keep is_number (drop i l))) → Kept items count (keep is_number (drop (i - 1) l))
  unfolding keep
  kept_before i o h k =
      let e : drop (i - 1) l ≡ get_or l (i - 1) 0 ∷ drop i l = drop_next l (i - 1) 0 (omega arith) ∙ ap (λ (j : ℕ). get_or l (i - 1) 0 ∷ drop j l) (let z : i - 1 + 1 ≡ i = omega arith in z) in
      rw e k

sorted_length : (xs : List ℕ) → length (sorted xs) ≤ length xs
sorted_length xs = within_length (sorted xs) xs (ascending_once _ (sorted_ascending xs)) (λ z m. sorted_at xs m)

-- what the table has in the end
pub carried_list : (n : Network) (ms : List ℕ) {t items : List ℕ} {count : ℕ} → t ≡ transitions_of n ms → length ms ≤ 16 → Kept items count (keep is_number t) → take (min count 16) (take 16 items) ≡ carried n ms
unfolding carried
carried_list n ms {t} {items} {count} e h k =
    let same : keep is_number t ≡ borne n ms = ap (keep is_number) e ∙ transitions_kept n ms is_number refl h in
    let kept : Kept items count (borne n ms) = subst (Kept items count) same k in
    let few : length (sorted (borne n ms)) ≤ 16 = omega (arith, sorted_length (borne n ms), keep_length is_number (map (transition_of n) ms), length-map ms (transition_of n)) in
    let counted : count ≡ length (sorted (borne n ms)) = kept.counted ∙ min-eq_left (let z : length (sorted (borne n ms)) ≤ 1025 = omega arith in z) in
    let small : count ≤ 16 = omega arith in
    ap (λ (j : ℕ). take j (take 16 items)) (min-eq_left small) ∙ take-take count 16 items small ∙ (kept_at kept (omega arith)).1
