use mathlib.Core.Path.{◌≡◌}
use mathlib.Core.Bool.{true}
use Rattle.steps.specs.Moves.{known}
use Rattle.chart_records.specs.Chart.{Chart, transition_at, home}
use Rattle.chart_records.specs.Laid.{Laid}
use Rattle.steps.specs.Cases.{member}
use Rattle.lists.proofs.Images.{Imaged}
use Rattle.chart_steps.proofs.allowed.members_of.Given as goal

abbrev pub invariant-loop-i : goal.invariant-loop-i
invariant-loop-i l = (c : Chart) → Laid l.rest l.counts l.offsets c → known l.counts.transitions l.list ≡ true → Imaged (member (λ m. (transition_at c m).label) (home c)) l.list 16 l.members l.i
