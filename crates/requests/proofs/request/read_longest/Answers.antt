use mathlib.Core.Path.{sym}
use native.Mathlib.Omega.{arith}
use Rattle.requests.proofs.Requests.{longest_none, longest_got}
use Rattle.requests.proofs.request.read_longest.Goals as goal

pub returns-then-left-taken : goal.returns-then-left-taken
returns-then-left-taken c = record { means = sym (longest_none _ _ _ c.size-taken.ensures c.left.ensures c.if-left-taken.true); within = omega arith }

pub returns-else-left-taken : goal.returns-else-left-taken
returns-else-left-taken c =
    let e = longest_got _ _ _ c.size-taken.ensures c.left.ensures c.if-left-taken.false in
    record { means = e.0; within = e.1 }
