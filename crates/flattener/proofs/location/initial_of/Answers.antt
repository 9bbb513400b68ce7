use borrow.Author.Tests.{eq-eqb, ne_eqb}
use Rattle.flattener.proofs.location.initial_of.Goals as goal

pub returns-then-i-initials : goal.returns-then-i-initials
returns-then-i-initials c h = rw (eq-eqb _ _ c.if-i-initials.true)

pub returns-else-i-initials : goal.returns-else-i-initials
returns-else-i-initials c h = rw (ne_eqb _ _ c.if-i-initials.false)
