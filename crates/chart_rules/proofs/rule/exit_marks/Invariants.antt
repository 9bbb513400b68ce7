use Rattle.chart_records.specs.Rules.{exits_fit}
use Rattle.chart_rules.proofs.Checks.{Tested}
use Rattle.chart_rules.proofs.rule.exit_marks.Given as goal

abbrev pub invariant-loop-s : goal.invariant-loop-s
invariant-loop-s l = Tested exits_fit l.rest l.counts l.s
