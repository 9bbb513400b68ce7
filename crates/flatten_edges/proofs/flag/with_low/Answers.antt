use native.Mathlib.Omega.{arith}
use Rattle.flatten_edges.proofs.flag.with_low.Goals as goal

pub returns-then-low : goal.returns-then-low
returns-then-low c = λ h. rw c.if-low.true (omega arith)

pub returns-else-low : goal.returns-else-low
returns-else-low c = λ h. rw c.if-low.false (omega arith)
