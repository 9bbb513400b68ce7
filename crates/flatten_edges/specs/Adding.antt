-- What a part of the walk over a chart's places adds to the gathered edges.
use Rattle.std.specs.Prelude.{ℕ, ◌≡◌, List, ◌++◌, length}
use Rattle.network_records.specs.Network.{Edge}
use Rattle.flatten_edges.specs.Gathering.{Gathered}

-- from the bytes s with n edges to l with m: these edges came after those
pub record Adds (s : List ℕ) (n : ℕ) (l : List ℕ) (m : ℕ) (new : List Edge) : Type 0 where
  pub long : length s ≡ 13312 → length l ≡ 13312
  pub after : length s ≡ 13312 → (es : List Edge) → Gathered s n es → Gathered l m (es ++ new)
