-- Bytes that the code writes into a lent buffer.
use Rattle.std.specs.Prelude.{ℕ, ◌+◌, ◌≤◌, ◌≡◌, List, ◌++◌, length, take, drop}

-- bytes written over those at a place
unfoldable pub overlay : List ℕ → ℕ → List ℕ → List ℕ
overlay s at xs = take at s ++ (xs ++ drop (at + length xs) s)

-- xs is written over s at a place, if it fits: then the buffer is t, and `end` is the place after xs
pub record Wrote (s : List ℕ) (at : ℕ) (xs t : List ℕ) (end : ℕ) : Type 0 where
  pub bytes : at + length xs ≤ length s → t ≡ overlay s at xs
  pub place : at + length xs ≤ length s → end ≡ at + length xs

-- so many of the bytes, from a place on
unfoldable pub part : List ℕ → ℕ → ℕ → List ℕ
part s start size = take size (drop start s)
