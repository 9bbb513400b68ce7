use Rattle.std.proofs.Common.{◌≡◌, ◌+◌, ◌*◌, ◌≤◌, true, drop}
use Rattle.steps.specs.Moves.{known}
use Rattle.chart_records.specs.Chart.{Chart}
use Rattle.chart_records.specs.Laid.{Laid}
use Rattle.chart_records.specs.declared.header.Counts.{Counts}
use Rattle.agreement.specs.Agreement.{named}
use Rattle.paired_run.proofs.owe.named_in.Given as goal

abbrev pub invariant-loop-t : goal.invariant-loop-t
invariant-loop-t l = (l.sum ≤ 2 * l.t-index) × ((c : Chart) (k : Counts) → Laid l.rest k l.offsets c → known k.transitions l.list ≡ true → l.sum + named c (drop l.t-index l.list) ≡ named c l.list)
