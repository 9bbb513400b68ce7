use Prim.Native.Nat.{◌<◌}
use Rattle.chart_records.specs.Laid.{apart_from}
use Rattle.chart_rules.proofs.Crossings.{Numbered}
use Rattle.chart_rules.proofs.transition_rule.is_apart_from_all.Given as goal

abbrev pub invariant-loop-u : goal.invariant-loop-u
invariant-loop-u l = l.t < l.counts.transitions → Numbered (λ c. apart_from c l.t) l.rest l.counts l.offsets l.parents l.u
