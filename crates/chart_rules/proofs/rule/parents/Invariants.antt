use Rattle.chart_records.specs.Rules.{placed}
use Rattle.chart_rules.proofs.Checks.{Tested}
use Rattle.chart_rules.proofs.rule.parents.Given as goal

abbrev pub invariant-loop-s : goal.invariant-loop-s
invariant-loop-s l = Tested placed l.rest l.counts l.s
