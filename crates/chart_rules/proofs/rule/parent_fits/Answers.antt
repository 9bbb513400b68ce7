use borrow.Author.Tests.{eq-eqb, ne_eqb, lt-ltb, le-ltb}
use Rattle.chart_records.specs.Chart.{parent_of, basic}
use Rattle.chart_rules.proofs.rule.parent_fits.Goals as goal

pub returns-then-s-eq0 : goal.returns-then-s-eq0
unfolding parent_of
returns-then-s-eq0 c = λ k S. rw (eq-eqb _ 0 c.if-s-eq0.true, ← c.parent_of-p.ensures k S)

pub returns-then-p-s : goal.returns-then-p-s
unfolding parent_of
returns-then-p-s c = λ k S. rw (ne_eqb _ 0 c.if-s-eq0.false, ← c.parent_of-p.ensures k S, le-ltb _ _ c.if-p-s.true)

pub returns : goal.returns
unfolding parent_of basic
returns c = λ k S. rw (ne_eqb _ 0 c.if-s-eq0.false, ← c.parent_of-p.ensures k S, lt-ltb _ _ c.if-p-s.false, ← c.kind_of.ensures k S)
