use mathlib.Core.Bool.{Bool}
use Prim.Native.Nat.{ℕ}
use Rattle.lists.specs.Lists.{all, below}
use Rattle.chart_records.specs.Chart.{Chart}
use Rattle.chart_records.specs.Laid.{apart_from}
use Rattle.chart_rules.proofs.Crossings.{Numbered}
use Rattle.chart_rules.proofs.transition_rule.all_apart.Given as goal

abbrev apart_from_all : ℕ → Chart → ℕ → Bool
apart_from_all n c t = all (apart_from c t) (below n)

abbrev pub invariant-loop-t : goal.invariant-loop-t
invariant-loop-t l = Numbered (apart_from_all l.counts.transitions) l.rest l.counts l.offsets l.parents l.t
