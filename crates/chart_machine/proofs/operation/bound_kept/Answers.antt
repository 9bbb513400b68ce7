use mathlib.Core.Path.{sym, ◌∙◌}
use Rattle.lists.specs.Lists.{implies}
use Rattle.chart_moves.specs.Machine.{is_active}
use Rattle.chart_machine.proofs.operation.bound_kept.Goals as goal

pub returns-then-not-is_in : goal.returns-then-not-is_in
unfolding is_active implies
returns-then-not-is_in c = λ k S h. rw (sym c.is_in.ensures ∙ c.if-not-is_in.true)

pub returns : goal.returns
unfolding is_active implies
returns c = λ k S h. rw (sym c.is_in.ensures ∙ c.if-not-is_in.false, ← c.bounds_of-bounds.ensures k S h) c.keeps.ensures
