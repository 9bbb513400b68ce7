use Rattle.chart_records.specs.Rules.{entries_fit}
use Rattle.chart_rules.proofs.Checks.{Tested}
use Rattle.chart_rules.proofs.rule.entry_marks.Given as goal

abbrev pub invariant-loop-s : goal.invariant-loop-s
invariant-loop-s l = Tested entries_fit l.rest l.counts l.s
