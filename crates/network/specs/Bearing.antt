-- The transitions that edges bear.
use Rattle.std.specs.Prelude.{ℕ, List, map, take, replicate}
use Rattle.lists.specs.Lists.{padded}
use Rattle.reading.specs.Answer.{Answer, done, refused}
use Rattle.network_records.specs.Network.{Network, edge_at}

-- the transition that the edge of a number bears, 255 for none
abbrev pub transition_of : Network → ℕ → ℕ
transition_of n m = (edge_at n m).transition

-- those of a list of edges as an array of sixteen holds them: 255 past the list's end
unfoldable pub transitions_of : Network → List ℕ → List ℕ
transitions_of n ms = padded 16 255 (map (transition_of n) (take 16 ms))

-- the same for a file: what is no network has no edge that bears one
abbrev pub transitions_in : Answer Network → List ℕ → List ℕ
transitions_in (done n) ms = transitions_of n ms
transitions_in (refused m) ms = replicate 16 255
