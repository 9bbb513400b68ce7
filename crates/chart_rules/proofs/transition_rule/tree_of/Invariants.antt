use Rattle.chart_records.specs.Chart.{Chart}
use Rattle.chart_records.specs.Layout.{Stated}
use Rattle.chart_tree.specs.Table.{Begun}
use Rattle.chart_rules.proofs.transition_rule.tree_of.Given as goal

abbrev pub invariant-loop-s : goal.invariant-loop-s
invariant-loop-s l = (c : Chart) → Stated l.rest l.counts c → Begun c l.tree l.s
