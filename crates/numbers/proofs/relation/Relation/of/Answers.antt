use native.Mathlib.Omega.{arith}
use mathlib.Core.Path.{sym}
use Rattle.numbers.specs.Relation.{relations}
use Rattle.numbers.proofs.Integers.{first_relation}
use Rattle.numbers.proofs.relation.Relation.of.Goals as goal

-- One arm for each relation.
pub returns-in-1 : goal.returns-in-1
unfolding relations
returns-in-1 c = rw c.in-1.is

pub returns-in-2 : goal.returns-in-2
unfolding relations
returns-in-2 c = rw c.in-2.is

pub returns-in-3 : goal.returns-in-3
unfolding relations
returns-in-3 c = rw c.in-3.is

pub returns-in-4 : goal.returns-in-4
unfolding relations
returns-in-4 c = rw c.in-4.is

pub returns-in-5 : goal.returns-in-5
unfolding relations
returns-in-5 c = rw c.in-5.is

pub returns-in_default : goal.returns-in_default
returns-in_default c = sym (first_relation c.args.code (omega arith) (omega arith) (omega arith) (omega arith) (omega arith))
