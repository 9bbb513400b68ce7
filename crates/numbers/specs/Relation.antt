-- The six relations of guards, on numbers and on signed numbers. `Relation` is the code's type.
use Rattle.std.specs.Prelude.{ℕ, Bool, not, ◌&&◌, List, [], ◌∷◌, ℤ, leb, ltb, eqb}
use Rattle.std.specs.Int.Signed.{lt_z, le_z}
pub use Rattle.numbers.specs.declared.relation.Relation.{Relation}
use Rattle.numbers.specs.declared.relation.Relation.TheVariants as Rl

abbrev pub lt : Relation
lt = Rl.Lt

abbrev pub le : Relation
le = Rl.Le

abbrev pub gt : Relation
gt = Rl.Gt

abbrev pub ge : Relation
ge = Rl.Ge

abbrev pub eq : Relation
eq = Rl.Eq

abbrev pub ne : Relation
ne = Rl.Ne

unfoldable pub compareℕ : Relation → ℕ → ℕ → Bool
compareℕ Rl.Lt a b = ltb a b
compareℕ Rl.Le a b = leb a b
compareℕ Rl.Gt a b = ltb b a
compareℕ Rl.Ge a b = leb b a
compareℕ Rl.Eq a b = eqb a b
compareℕ Rl.Ne a b = not (eqb a b)

unfoldable pub compareℤ : Relation → ℤ → ℤ → Bool
compareℤ Rl.Lt a b = lt_z a b
compareℤ Rl.Le a b = le_z a b
compareℤ Rl.Gt a b = lt_z b a
compareℤ Rl.Ge a b = le_z b a
compareℤ Rl.Eq a b = le_z a b && le_z b a
compareℤ Rl.Ne a b = not (le_z a b && le_z b a)

unfoldable pub relations : List Relation
relations = lt ∷ le ∷ gt ∷ ge ∷ eq ∷ ne ∷ []
