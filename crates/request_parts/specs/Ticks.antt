-- The ticks of a request to count weft breaks.
use Rattle.std.specs.Prelude.{ℕ, ◌*◌, ◌/◌, List, ◌++◌, map, length, take, drop}
use Rattle.lists.specs.Lists.{below}
use Rattle.request_parts.specs.Parts.{word_at}

-- a tick has four bytes, the most significant first; bytes after the last whole tick are ignored
unfoldable pub ticks_of : List ℕ → List ℕ
ticks_of s = map (λ i. word_at s (4 * i)) (below (length s / 4))

-- a list, after another is written over its front as far as there is room
unfoldable pub overwritten : List ℕ → List ℕ → List ℕ
overwritten l ts = take (length l) ts ++ drop (length ts) l
