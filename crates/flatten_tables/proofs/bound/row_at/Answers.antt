use native.Mathlib.Omega.{arith}
use mathlib.Core.Path.{refl}
use Rattle.flatten_tables.proofs.Bounding.{row_is, known_few}
use Rattle.flatten_tables.proofs.bound.row_at.Goals as goal

pub returns-then-i-ge48 : goal.returns-then-i-ge48
returns-then-i-ge48 c d t B h = absurd (omega (arith, known_few d t B _ h))

pub returns : goal.returns
returns c d t B h = row_is d t c.args.rows B _ h refl
