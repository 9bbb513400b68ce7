use mathlib.Core.Path.{sym, ap, ◌∙◌}
use Rattle.reading.specs.Reading.{yield}
use Rattle.reading.proofs.Places.{bind_got, bind_fault, handed_on}
use Rattle.request_parts.specs.Calls.{waited, call_of}
use Rattle.request_parts.proofs.calls.read_wait.Goals as goal

pub returns-in_err-ticks-clause-means : goal.returns-in_err-ticks-clause-means
unfolding waited
returns-in_err-ticks-clause-means c = ap (call_of _) (handed_on _ c.from_residual.ensures.1) ∙ sym (bind_fault _ _ _ (sym c.in_err-ticks.ensures.means))

pub returns-clause-means : goal.returns-clause-means
unfolding waited yield
returns-clause-means c = sym (bind_got _ _ _ (sym c.in_ok-ticks.ensures.means))
