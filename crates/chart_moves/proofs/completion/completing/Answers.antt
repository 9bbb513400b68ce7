use borrow.Author.Tests.{eq-eqb, ne_eqb}
use Rattle.chart_moves.proofs.completion.completing.Goals as goal

pub returns-then-not-active : goal.returns-then-not-active
returns-then-not-active c = rw (c.if-not-active.true)

pub returns-then-kind-eq0 : goal.returns-then-kind-eq0
returns-then-kind-eq0 c = rw (c.if-not-active.false, eq-eqb c.args.kind 0 c.if-kind-eq0.true)

pub returns-else-kind-eq0 : goal.returns-else-kind-eq0
returns-else-kind-eq0 c = rw (c.if-not-active.false, ne_eqb c.args.kind 0 c.if-kind-eq0.false)
