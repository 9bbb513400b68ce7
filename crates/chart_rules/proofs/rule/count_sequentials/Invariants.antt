use Prim.Native.Nat.{◌≤◌}
use Rattle.chart_records.specs.Chart.{sequential}
use Rattle.chart_rules.proofs.Checks.{Counted}
use Rattle.chart_rules.proofs.rule.count_sequentials.Given as goal

abbrev pub invariant-loop-s : goal.invariant-loop-s
invariant-loop-s l = (l.count ≤ l.s) × Counted sequential l.rest l.counts l.count l.s
