use mathlib.Core.Path.{sym, ◌∙◌}
use Rattle.chart_records.specs.Tree.{is_child}
use Rattle.chart_rules.proofs.Checks.{sought_none, sought_more, sought_stop, sought_all, child_sought}
use Rattle.chart_rules.proofs.rule.has_child.Goals as goal

pub loop-s-init : goal.loop-s-init
loop-s-init c = sought_none (λ k. is_child k _) _ _

pub returns-then-is_child : goal.returns-then-is_child
returns-then-is_child c = λ k S. sought_stop (λ k. is_child k _) _ _ c.loop-s.invariant c.loop-s-test.true c.is_child.ensures c.if-is_child.true k S ∙ sym (child_sought k _)

pub loop-s-preserved : goal.loop-s-preserved
loop-s-preserved c = sought_more (λ k. is_child k _) _ _ c.loop-s.invariant c.loop-s-test.true c.is_child.ensures c.if-is_child.false

pub returns : goal.returns
returns c = λ k S. sought_all (λ k. is_child k _) _ _ c.loop-s.invariant c.loop-s-test.false k S ∙ sym (child_sought k _)
