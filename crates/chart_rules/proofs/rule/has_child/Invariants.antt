use Rattle.chart_records.specs.Tree.{is_child}
use Rattle.chart_rules.proofs.Checks.{Sought}
use Rattle.chart_rules.proofs.rule.has_child.Given as goal

abbrev pub invariant-loop-s : goal.invariant-loop-s
invariant-loop-s l = Sought (λ c. is_child c l.m) l.rest l.counts l.s
