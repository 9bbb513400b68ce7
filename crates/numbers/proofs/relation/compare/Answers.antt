use mathlib.Core.Path.{ap}
use mathlib.Core.Bool.{not}
use lib.Signed.{lt_z, le_z}
use Rattle.numbers.specs.Relation.{compareℤ}
use Rattle.numbers.proofs.Integers.{read_both, same_bits}
use Rattle.numbers.proofs.relation.compare.Goals as goal

-- One arm for each relation.
pub returns-in-Lt : goal.returns-in-Lt
unfolding compareℤ
returns-in-Lt c = rw c.in-Lt.is (read_both lt_z c.ranges.x c.ranges.y)

pub returns-in-Le : goal.returns-in-Le
unfolding compareℤ
returns-in-Le c = rw c.in-Le.is (read_both le_z c.ranges.x c.ranges.y)

pub returns-in-Gt : goal.returns-in-Gt
unfolding compareℤ
returns-in-Gt c = rw c.in-Gt.is (read_both lt_z c.ranges.y c.ranges.x)

pub returns-in-Ge : goal.returns-in-Ge
unfolding compareℤ
returns-in-Ge c = rw c.in-Ge.is (read_both le_z c.ranges.y c.ranges.x)

pub returns-in-Eq : goal.returns-in-Eq
unfolding compareℤ
returns-in-Eq c = rw c.in-Eq.is (same_bits _ _ c.ranges.x c.ranges.y)

pub returns-in-Ne : goal.returns-in-Ne
unfolding compareℤ
returns-in-Ne c = rw c.in-Ne.is (ap not (same_bits _ _ c.ranges.x c.ranges.y))
