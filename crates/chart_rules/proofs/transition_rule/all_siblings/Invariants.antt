use Rattle.chart_records.specs.Rules.{siblings}
use Rattle.chart_rules.proofs.Crossings.{Crossed}
use Rattle.chart_rules.proofs.transition_rule.all_siblings.Given as goal

abbrev pub invariant-loop-t : goal.invariant-loop-t
invariant-loop-t l = Crossed siblings l.rest l.counts l.offsets l.t
