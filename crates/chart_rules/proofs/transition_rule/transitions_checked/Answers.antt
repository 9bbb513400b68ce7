use mathlib.Core.Path.{sym, ◌∙◌}
use Rattle.reading.specs.Answer.{unless}
use Rattle.chart_records.specs.Rules.{transition_rules}
use Rattle.chart_tree.proofs.Tables.{rooted_of}
use Rattle.chart_rules.proofs.transition_rule.transitions_checked.Goals as goal

pub returns-then-not-all_siblings : goal.returns-then-not-all_siblings
unfolding transition_rules unless
returns-then-not-all_siblings c = λ k L T P e. rw (sym (c.all_siblings.ensures k L) ∙ c.if-not-all_siblings.true)

pub returns-then-not-exits_fit : goal.returns-then-not-exits_fit
unfolding transition_rules unless
returns-then-not-exits_fit c = λ k L T P e. rw (
  sym (c.all_siblings.ensures k L) ∙ c.if-not-all_siblings.false,
  sym (c.exits_fit.ensures k L) ∙ c.if-not-exits_fit.true,
)

pub returns-then-not-entries_fit : goal.returns-then-not-entries_fit
unfolding transition_rules unless
returns-then-not-entries_fit c = λ k L T P e. rw (
  sym (c.all_siblings.ensures k L) ∙ c.if-not-all_siblings.false,
  sym (c.exits_fit.ensures k L) ∙ c.if-not-exits_fit.false,
  sym (c.entries_fit.ensures k L) ∙ c.if-not-entries_fit.true,
)

pub returns-then-not-passed : goal.returns-then-not-passed
unfolding transition_rules unless
returns-then-not-passed c = λ k L T P e. rw (
  sym (c.all_siblings.ensures k L) ∙ c.if-not-all_siblings.false,
  sym (c.exits_fit.ensures k L) ∙ c.if-not-exits_fit.false,
  sym (c.entries_fit.ensures k L) ∙ c.if-not-entries_fit.false,
  sym e ∙ c.if-not-passed.true,
)

pub returns-then-not-all_apart : goal.returns-then-not-all_apart
unfolding transition_rules unless
returns-then-not-all_apart c = λ k L T P e. rw (
  sym (c.all_siblings.ensures k L) ∙ c.if-not-all_siblings.false,
  sym (c.exits_fit.ensures k L) ∙ c.if-not-exits_fit.false,
  sym (c.entries_fit.ensures k L) ∙ c.if-not-entries_fit.false,
  sym e ∙ c.if-not-passed.false,
  sym (c.all_apart.ensures k L (rooted_of k _ T P) (sym (c.all_siblings.ensures k L) ∙ c.if-not-all_siblings.false)) ∙ c.if-not-all_apart.true,
)

pub returns : goal.returns
unfolding transition_rules unless
returns c = λ k L T P e. rw (
  sym (c.all_siblings.ensures k L) ∙ c.if-not-all_siblings.false,
  sym (c.exits_fit.ensures k L) ∙ c.if-not-exits_fit.false,
  sym (c.entries_fit.ensures k L) ∙ c.if-not-entries_fit.false,
  sym e ∙ c.if-not-passed.false,
  sym (c.all_apart.ensures k L (rooted_of k _ T P) (sym (c.all_siblings.ensures k L) ∙ c.if-not-all_siblings.false)) ∙ c.if-not-all_apart.false,
)
