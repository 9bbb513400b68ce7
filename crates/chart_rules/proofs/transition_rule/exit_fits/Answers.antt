use lib.Dec.{eqb}
use borrow.Author.Tests.{eq-eqb, ne_eqb}
use mathlib.Core.Path.{sym}
use Rattle.chart_records.specs.Chart.{basic}
use Rattle.chart_records.specs.Rules.{exits}
use Rattle.lists.proofs.Bools.{beq_true, beq_false}
use Rattle.chart_rules.proofs.transition_rule.exit_fits.Goals as goal

pub returns-then-kind_of-eq0 : goal.returns-then-kind_of-eq0
unfolding exits basic
returns-then-kind_of-eq0 c = λ k t S e f. rw (← e, ← f, ← c.kind_of.ensures k S, eq-eqb _ 0 c.if-kind_of-eq0.true) (sym (beq_true _))

pub returns : goal.returns
unfolding exits basic
returns c = λ k t S e f. rw (← e, ← f, ← c.kind_of.ensures k S, ne_eqb _ 0 c.if-kind_of-eq0.false) (sym (beq_false (eqb c.args.exit 255)))
