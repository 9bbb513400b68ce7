use mathlib.Core.Path.{◌≡◌}
use native.Mathlib.Omega.{arith}
use Rattle.reading.specs.Reading.{yield}
use Rattle.requests.specs.Requests.{operations, operation}
use Rattle.requests.proofs.request.read_operation.Goals as goal

pub returns-in-0 : goal.returns-in-0
unfolding operation operations yield
returns-in-0 c = record { means = rw c.in-0.is; within = omega arith }

pub returns-in-1 : goal.returns-in-1
unfolding operation operations
returns-in-1 c = record { means = rw c.in-1.is c.read_lent.ensures.means; within = c.read_lent.ensures.within }

pub returns-in-2 : goal.returns-in-2
unfolding operation operations yield
returns-in-2 c = record { means = rw c.in-2.is; within = omega arith }

pub returns-in-3 : goal.returns-in-3
unfolding operation operations
returns-in-3 c = record { means = rw c.in-3.is c.read_called.ensures.means; within = c.read_called.ensures.within }

pub returns-in-4 : goal.returns-in-4
unfolding operation operations
returns-in-4 c = record { means = rw c.in-4.is c.read_called-in-4.ensures.means; within = c.read_called-in-4.ensures.within }

pub returns-in-5 : goal.returns-in-5
unfolding operation operations yield
returns-in-5 c = record { means = rw c.in-5.is; within = omega arith }

pub returns-in-6 : goal.returns-in-6
unfolding operation operations
returns-in-6 c = record { means = rw c.in-6.is c.read_called-in-6.ensures.means; within = c.read_called-in-6.ensures.within }

pub returns-in-7 : goal.returns-in-7
unfolding operation operations
returns-in-7 c = record { means = rw c.in-7.is c.read_called-in-7.ensures.means; within = c.read_called-in-7.ensures.within }

pub returns-in-8 : goal.returns-in-8
unfolding operation operations
returns-in-8 c = record { means = rw c.in-8.is c.read_run.ensures.means; within = c.read_run.ensures.within }

pub returns-in-9 : goal.returns-in-9
unfolding operation operations
returns-in-9 c = record { means = rw c.in-9.is c.read_longest.ensures.means; within = c.read_longest.ensures.within }

pub returns-in-10 : goal.returns-in-10
unfolding operation operations
returns-in-10 c = record { means = rw c.in-10.is c.read_longest-in-10.ensures.means; within = c.read_longest-in-10.ensures.within }

pub returns-in_default : goal.returns-in_default
unfolding operation operations
returns-in_default c =
    let z : c.args.code ≡ 11 = omega arith in
    record { means = rw z c.read_window.ensures.means; within = c.read_window.ensures.within }
