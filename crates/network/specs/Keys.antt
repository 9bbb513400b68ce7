-- What the edges of a network file are ordered by.
use Rattle.std.specs.Prelude.{List, [], ◌∷◌, ℕ}
use Rattle.network_records.specs.declared.edge.Edge.{Edge}

-- what the code's edges are ordered by
abbrev pub key_of : Edge → List ℕ
key_of e = e.source ∷ e.target ∷ e.transition ∷ e.tested ∷ e.channel ∷ []
