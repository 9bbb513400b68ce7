use Rattle.numbers.specs.Relation.{compareℕ}
use Rattle.numbers.proofs.relation.compare_clocks.Goals as goal

-- One arm for each relation.
pub returns-in-Lt : goal.returns-in-Lt
unfolding compareℕ
returns-in-Lt c = rw c.in-Lt.is

pub returns-in-Le : goal.returns-in-Le
unfolding compareℕ
returns-in-Le c = rw c.in-Le.is

pub returns-in-Gt : goal.returns-in-Gt
unfolding compareℕ
returns-in-Gt c = rw c.in-Gt.is

pub returns-in-Ge : goal.returns-in-Ge
unfolding compareℕ
returns-in-Ge c = rw c.in-Ge.is

pub returns-in-Eq : goal.returns-in-Eq
unfolding compareℕ
returns-in-Eq c = rw c.in-Eq.is

pub returns-in-Ne : goal.returns-in-Ne
unfolding compareℕ
returns-in-Ne c = rw c.in-Ne.is
