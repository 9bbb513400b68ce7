use mathlib.Core.Path.{sym, ◌∙◌}
use borrow.Author.Tests.{eq-eqb, ne_eqb}
use Rattle.chart_records.specs.Chart.{basic}
use Rattle.chart_rules.proofs.rule.is_placed.Goals as goal

pub returns-then-not-parent_fits : goal.returns-then-not-parent_fits
returns-then-not-parent_fits c = λ k S. rw (sym (c.parent_fits.ensures k S) ∙ c.if-not-parent_fits.true)

pub returns-then-kind_of-eq0 : goal.returns-then-kind_of-eq0
unfolding basic
returns-then-kind_of-eq0 c = λ k S. rw (sym (c.parent_fits.ensures k S) ∙ c.if-not-parent_fits.false, ← c.kind_of.ensures k S, eq-eqb _ 0 c.if-kind_of-eq0.true)

pub returns : goal.returns
unfolding basic
returns c = λ k S. rw (sym (c.parent_fits.ensures k S) ∙ c.if-not-parent_fits.false, ← c.kind_of.ensures k S, ne_eqb _ 0 c.if-kind_of-eq0.false) (c.has_child.ensures k S)
