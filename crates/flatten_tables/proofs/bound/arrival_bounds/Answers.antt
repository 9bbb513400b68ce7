use native.Mathlib.Omega.{arith}
use mathlib.Core.Path.{refl}
use Rattle.flatten_tables.proofs.Bounding.{arrives_few, arrives_pre, arrives_child}
use Rattle.flatten_tables.proofs.bound.arrival_bounds.Goals as goal

pub returns-then-i-ge-COUNT : goal.returns-then-i-ge-COUNT
returns-then-i-ge-COUNT c d C B K h = absurd (omega (arith, arrives_few d K _ h))

pub returns-then-e : goal.returns-then-e
returns-then-e c d C B K h = arrives_pre d K _ h refl refl c.if-e.true (c.pre_bounds.ensures d B)

pub returns : goal.returns
returns c d C B K h = arrives_child d K _ h C refl refl c.if-e.false (c.row_at.ensures d _ B)
