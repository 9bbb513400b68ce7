use mathlib.Core.Bool.{cond, ◌&&◌}
use Rattle.lists.specs.Lists.{below}
use Rattle.labels.specs.Label.{receives}
use Rattle.lists.proofs.Images.{Imaged}
use Rattle.chart_records.specs.Chart.{Chart, transition_at, home}
use Rattle.chart_moves.specs.Machine.{active_transition}
use Rattle.chart_steps.specs.Asked.{Prepared}
use Rattle.chart_steps.proofs.allowed.receiver_homes.Given as goal

abbrev pub invariant-loop-t : goal.invariant-loop-t
invariant-loop-t l = (c : Chart) → Prepared l.rest l.counts l.offsets l.given l.complete c → Imaged (λ m. cond (receives (transition_at c m).label l.channel && active_transition c l.given (transition_at c m)) (home c m) 255) (below l.counts.transitions) 64 l.homes l.t
