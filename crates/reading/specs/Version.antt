-- The versions of a chart's or a network's file, and what depends on them. A version has what those before it have.
use Rattle.std.specs.Prelude.{ℕ, Bool, ◌&&◌, leb}

abbrev pub is_version : ℕ → Bool
is_version v = leb 1 v && leb v 2

-- an advance may stand in the place of an assignment
abbrev pub has_advances : ℕ → Bool
has_advances v = leb 2 v
