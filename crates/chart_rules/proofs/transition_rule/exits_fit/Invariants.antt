use Rattle.chart_records.specs.Rules.{exits}
use Rattle.chart_rules.proofs.Crossings.{Crossed}
use Rattle.chart_rules.proofs.transition_rule.exits_fit.Given as goal

abbrev pub invariant-loop-t : goal.invariant-loop-t
invariant-loop-t l = Crossed exits l.rest l.counts l.offsets l.t
