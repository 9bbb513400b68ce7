use mathlib.Core.Path.{sym, ◌∙◌}
use borrow.Author.Tests.{le-leb, lt-leb}
use Rattle.steps.specs.Moves.{known}
use Rattle.steps.proofs.step.known.Goals as goal

pub returns-then-list-lt1 : goal.returns-then-list-lt1
unfolding known
returns-then-list-lt1 c = rw (lt-leb 1 _ c.if-list-lt1.true)

pub returns-then-list-gt16 : goal.returns-then-list-gt16
unfolding known
returns-then-list-gt16 c = rw (le-leb 1 _ c.if-list-lt1.false, lt-leb _ 16 c.if-list-gt16.true)

pub returns-then-ascends : goal.returns-then-ascends
unfolding known
returns-then-ascends c = rw (le-leb 1 _ c.if-list-lt1.false, le-leb _ 16 c.if-list-gt16.false, sym c.ascends.ensures ∙ c.if-ascends.true) c.all_below.ensures

pub returns-else-ascends : goal.returns-else-ascends
unfolding known
returns-else-ascends c = rw (le-leb 1 _ c.if-list-lt1.false, le-leb _ 16 c.if-list-gt16.false, sym c.ascends.ensures ∙ c.if-ascends.false) c.if-ascends.false
