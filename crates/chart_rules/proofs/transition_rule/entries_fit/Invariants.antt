use Rattle.chart_records.specs.Rules.{entries}
use Rattle.chart_rules.proofs.Crossings.{Crossed}
use Rattle.chart_rules.proofs.transition_rule.entries_fit.Given as goal

abbrev pub invariant-loop-t : goal.invariant-loop-t
invariant-loop-t l = Crossed entries l.rest l.counts l.offsets l.t
