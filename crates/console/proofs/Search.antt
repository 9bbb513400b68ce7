-- Where a line has the first byte that passes.
use mathlib.Core.Path.{◌≡◌, refl, sym, ap, ◌∙◌}
use mathlib.Core.Bool.{Bool, cond}
use mathlib.Core.List.{List}
use Prim.Native.Nat.{ℕ, ◌≤◌}
use native.Mathlib.Omega.{arith}
use native.Mathlib.Decide.{dec_lt}
use borrow.Author.Tests.{lt-ltb, le-ltb}
use lib.ListN.{length, take, drop, length-drop}
use Rattle.std.specs.Prelude.{Option, unwrap_or}
use Rattle.std.specs.Prelude.{position as first}
use Rattle.std.proofs.lemmas.List.Recursion.{is_position_or_len}
use lib.Dec.{eqb}
use Rattle.std.specs.List.{position_or_len}
use Rattle.lists.specs.Lists.{position}
use Rattle.reading.specs.Places.{onward}
use Rattle.lists.proofs.Position.{position_le}
use Rattle.console.specs.Script.{before_comment}
use Rattle.console.specs.Places.{place_of}

same_place : (p : ℕ → Bool) (xs : List ℕ) → position p xs ≡ position_or_len p xs
unfolding position
same_place p xs = is_position_or_len (position p) p refl (λ x ys. ap (λ (n : ℕ). cond (p x) 0 n) (omega arith)) xs

-- the place that `position` of std answers, or the length
pub or_length : (p : ℕ → Bool) (xs : List ℕ) {r : Option ℕ} {n : ℕ} → r ≡ first p xs → n ≡ unwrap_or r (length xs) → n ≡ position p xs
or_length p xs e f = f ∙ ap (λ (r : Option ℕ). unwrap_or r (length xs)) e ∙ elim (dec_lt (position_or_len p xs) (length xs)) [
  | yes h ↦ rw (lt-ltb (position_or_len p xs) (length xs) h) (sym (same_place p xs))
  | no h ↦ let z : length xs ≡ position_or_len p xs = omega (arith, same_place p xs, position_le p xs) in rw (le-ltb (position_or_len p xs) (length xs) (omega arith)) (z ∙ sym (same_place p xs))
]

pub place_within : (p : ℕ → Bool) (s : List ℕ) (at : ℕ) {r : ℕ} → r ≡ place_of p s at → at ≤ length s → r ≤ length s
unfolding onward
place_within p s at e h = omega (arith, position_le p (drop at s), length-drop at s)

-- the part of a line up to where its comment begins
pub before_comment_lem : (s : List ℕ) {to : ℕ} → to ≡ position (λ x. eqb x 35) s → take to s ≡ before_comment s
unfolding before_comment
before_comment_lem s e = ap (λ (n : ℕ). take n s) e
