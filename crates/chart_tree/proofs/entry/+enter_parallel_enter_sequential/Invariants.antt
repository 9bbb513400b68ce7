use Rattle.std.proofs.Common.{◌-◌, ◌≡◌, true}
use Rattle.chart_records.specs.Chart.{Chart, parallel}
use Rattle.chart_tree.specs.Table.{Enters, adding}
use Rattle.chart_tree.proofs.Entries.{children_enter}
use Rattle.chart_tree.proofs.entry.+enter_parallel_enter_sequential.Given as goal

abbrev pub decreases-enter_parallel : goal.decreases-enter_parallel
decreases-enter_parallel l = 48 - l.s

abbrev pub decreases-enter_sequential : goal.decreases-enter_sequential
decreases-enter_sequential l = 48 - l.s

abbrev pub invariant-enter_parallel-loop-x : goal.invariant-enter_parallel-loop-x
invariant-enter_parallel-loop-x l = (c : Chart) → Enters c l.parents l.kinds l.entries l.entry l.s → parallel c l.s ≡ true → l.out ≡ adding 48 c (children_enter c l.entry l.s l.x) l.initial.out

abbrev pub invariant-enter_sequential-loop-x : goal.invariant-enter_sequential-loop-x
invariant-enter_sequential-loop-x l = (c : Chart) → Enters c l.parents l.kinds l.entries l.entry l.s → l.out ≡ adding 48 c (children_enter c l.entry l.s l.x) l.initial.out
