use mathlib.Core.Path.{sym, ◌∙◌}
use Rattle.reading.specs.Answer.{unless}
use Rattle.chart_records.specs.Rules.{state_rules}
use Rattle.chart_rules.proofs.rule.states_checked.Goals as goal

pub returns-then-not-parents : goal.returns-then-not-parents
unfolding state_rules unless
returns-then-not-parents c = λ k S. rw (sym (c.parents.ensures k S) ∙ c.if-not-parents.true)

pub returns-then-not-few : goal.returns-then-not-few
unfolding state_rules unless
returns-then-not-few c = λ k S. rw (
  sym (c.parents.ensures k S) ∙ c.if-not-parents.false,
  sym (c.few.ensures k S) ∙ c.if-not-few.true,
)

pub returns-then-not-some_sequential : goal.returns-then-not-some_sequential
unfolding state_rules unless
returns-then-not-some_sequential c = λ k S. rw (
  sym (c.parents.ensures k S) ∙ c.if-not-parents.false,
  sym (c.few.ensures k S) ∙ c.if-not-few.false,
  sym (c.some_sequential.ensures k S) ∙ c.if-not-some_sequential.true,
)

pub returns-then-not-entry_marks : goal.returns-then-not-entry_marks
unfolding state_rules unless
returns-then-not-entry_marks c = λ k S. rw (
  sym (c.parents.ensures k S) ∙ c.if-not-parents.false,
  sym (c.few.ensures k S) ∙ c.if-not-few.false,
  sym (c.some_sequential.ensures k S) ∙ c.if-not-some_sequential.false,
  sym (c.entry_marks.ensures k S) ∙ c.if-not-entry_marks.true,
)

pub returns-then-not-exit_marks : goal.returns-then-not-exit_marks
unfolding state_rules unless
returns-then-not-exit_marks c = λ k S. rw (
  sym (c.parents.ensures k S) ∙ c.if-not-parents.false,
  sym (c.few.ensures k S) ∙ c.if-not-few.false,
  sym (c.some_sequential.ensures k S) ∙ c.if-not-some_sequential.false,
  sym (c.entry_marks.ensures k S) ∙ c.if-not-entry_marks.false,
  sym (c.exit_marks.ensures k S) ∙ c.if-not-exit_marks.true,
)

pub returns : goal.returns
unfolding state_rules unless
returns c = λ k S. rw (
  sym (c.parents.ensures k S) ∙ c.if-not-parents.false,
  sym (c.few.ensures k S) ∙ c.if-not-few.false,
  sym (c.some_sequential.ensures k S) ∙ c.if-not-some_sequential.false,
  sym (c.entry_marks.ensures k S) ∙ c.if-not-entry_marks.false,
  sym (c.exit_marks.ensures k S) ∙ c.if-not-exit_marks.false,
)
