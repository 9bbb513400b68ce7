use borrow.Author.Tests.{eq-eqb, ne_eqb}
use Rattle.chart_records.specs.Chart.{basic}
use Rattle.chart_records.specs.Rules.{entries}
use Rattle.chart_rules.proofs.transition_rule.entry_fits.Goals as goal

pub returns-then-kind_of-eq0 : goal.returns-then-kind_of-eq0
unfolding entries basic
returns-then-kind_of-eq0 c = λ k t S e f. rw (← e, ← f, ← c.kind_of.ensures k S, eq-eqb _ 0 c.if-kind_of-eq0.true)

pub returns-then-entry-eq255 : goal.returns-then-entry-eq255
unfolding entries basic
returns-then-entry-eq255 c = λ k t S e f. rw (← e, ← f, ← c.kind_of.ensures k S, ne_eqb _ 0 c.if-kind_of-eq0.false, eq-eqb _ 255 c.if-entry-eq255.true)

pub returns : goal.returns
unfolding entries basic
returns c = λ k t S e f. rw (← e, ← f, ← c.kind_of.ensures k S, ne_eqb _ 0 c.if-kind_of-eq0.false, ne_eqb _ 255 c.if-entry-eq255.false, ← c.entries_of.ensures k S) c.has.ensures
