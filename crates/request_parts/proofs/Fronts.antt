-- A loop that writes a list over the front of another, as far as there is room; the ticks of a request as such a list.
use mathlib.Core.Path.{◌≡◌, refl, sym, ap, ap₂, ◌∙◌}
use mathlib.Core.List.{List, ◌++◌}
use Prim.Native.Nat.{ℕ, ◌+◌, ◌*◌, ◌/◌, ◌≤◌, ◌<◌, min}
use native.Mathlib.Omega.{arith}
use native.Mathlib.Decide.{dec_lt}
use native.Mathlib.Nat.{min-eq_left, min-eq_right}
use lib.ListN.{length, get_or, take, drop, set, length-map, length-set, take-append-drop, drop_of_length-le}
use lib.Seq.{take_all, drop-set-lt, drop-drop}
use Rattle.lists.specs.Lists.{below}
use Rattle.reading.specs.Reading.{got, byte4}
use Rattle.reading.specs.Places.{onward}
use Rattle.lists.proofs.Below.{length_below, get_d_mapped}
use Rattle.lists.proofs.Loops.{front_more}
use Rattle.reading.proofs.Places.{byte4_some}
use Rattle.request_parts.specs.Ticks.{ticks_of, overwritten}

-- l₀ has become l: the first i elements are those of ts, and all others are as they were
pub record Writing (ts l₀ l : List ℕ) (i : ℕ) : Type 0 where
  pub within : i ≤ min (length ts) (length l₀)
  pub long : length l ≡ length l₀
  pub done : take i l ≡ take i ts
  pub kept : drop i l ≡ drop i l₀

module _ (ts l₀ : List ℕ) where
  pub writing_none : Writing ts l₀ l₀ 0
  writing_none = record { within = omega arith; long = refl; done = refl; kept = refl }

  -- what is written in all
  all_written : take (min (length ts) (length l₀)) ts ++ drop (min (length ts) (length l₀)) l₀ ≡ overwritten l₀ ts
  unfolding overwritten
  all_written = elim (dec_lt (length ts) (length l₀)) [
    | yes h ↦ rw (min-eq_left (let z : length ts ≤ length l₀ = omega arith in z)) (ap (λ (xs : List ℕ). xs ++ drop (length ts) l₀) (take_all (length ts) ts (omega arith) ∙ sym (take_all (length l₀) ts (omega arith))))
    | no h ↦ rw (min-eq_right (let z : length l₀ ≤ length ts = omega arith in z)) (ap (λ (xs : List ℕ). take (length l₀) ts ++ xs) (drop_of_length-le l₀ {i = length l₀} (omega arith) ∙ sym (drop_of_length-le l₀ {i = length ts} (omega arith))))
  ]

  module _ (l : List ℕ) (i : ℕ) (W : Writing ts l₀ l i) {n : ℕ} (q : n ≡ min (length ts) (length l₀)) where
    pub writing_more : {v : ℕ} → i < n → v ≡ get_or ts i 0 → Writing ts l₀ (set l i v) (i + 1)
    writing_more {v} h e =
        record {
          within = omega (arith, q);
          long = length-set l i v ∙ W.long;
          done = front_more ts l i 0 v W.done (omega (arith, q, W.long)) (omega (arith, q)) e;
          kept = drop-set-lt (i + 1) l i v (omega arith) ∙ sym (drop-drop 1 i l) ∙ ap (drop 1) W.kept ∙ drop-drop 1 i l₀;
        }

    pub writing_all : n ≤ i → l ≡ overwritten l₀ ts
    writing_all h = let z : i ≡ min (length ts) (length l₀) = omega (arith, q, W.within) in
        sym (take-append-drop i l) ∙ ap₂ ◌++◌ W.done W.kept ∙ ap (λ (k : ℕ). take k ts ++ drop k l₀) z ∙ all_written

module _ (s : List ℕ) where
  ticks_long : length (ticks_of s) ≡ length s / 4
  unfolding ticks_of
  ticks_long = length-map (below (length s / 4)) _ ∙ length_below (length s / 4)

  pub ticks_room : (k : ℕ) {n : ℕ} → n ≡ min (length s / 4) k → n ≡ min (length (ticks_of s)) k
  ticks_room k e = e ∙ ap (λ (m : ℕ). min m k) (sym ticks_long)

  -- what is read of four bytes that are there
  pub tick_read : (i : ℕ) {v : ℕ} → i < length s / 4 → ((x : ℕ) (t : List ℕ) → byte4 (onward s (4 * i)) ≡ got x t → v ≡ x) → v ≡ get_or (ticks_of s) i 0
  unfolding ticks_of
  tick_read i h e = e _ _ (byte4_some s (4 * i) refl (omega arith)) ∙ sym (get_d_mapped _ (length s / 4) i 0 h)
