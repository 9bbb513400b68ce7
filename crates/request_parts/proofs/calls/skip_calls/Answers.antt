use mathlib.Core.Path.{sym, ap, ◌∙◌}
use Rattle.reading.specs.Reading.{skipped}
use Rattle.reading.specs.Places.{reached}
use Rattle.reading.proofs.Places.{bind_got, bind_fault, handed_on}
use Rattle.reading.proofs.Reading.{mapped_fault}
use Rattle.request_parts.specs.Calls.{calls}
use Rattle.request_parts.proofs.calls.skip_calls.Goals as goal

pub returns-in_err-count-clause-means : goal.returns-in_err-count-clause-means
unfolding calls skipped
returns-in_err-count-clause-means c = ap (reached _ tt) (handed_on _ c.from_residual.ensures.1) ∙ sym (mapped_fault _ (bind_fault _ _ _ (sym c.in_err-count.ensures.means)))

pub returns-clause-means : goal.returns-clause-means
unfolding calls
returns-clause-means c = c.skip_many.ensures.means ∙ ap skipped (sym (bind_got _ _ _ (sym c.in_ok-count.ensures.means)))
