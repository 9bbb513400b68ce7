use Prim.Native.Nat.{◌<◌}
use Rattle.chart_rules.proofs.Checks.{Seen}
use Rattle.chart_rules.proofs.rule.children_marked.Given as goal

abbrev pub invariant-loop-s : goal.invariant-loop-s
invariant-loop-s l = (l.seen < 65536) × Seen l.m l.rest l.counts l.seen l.s
