use mathlib.Core.Path.{sym, ap, ◌∙◌}
use Rattle.reading.proofs.Places.{bind_got, bind_fault, handed_on}
use Rattle.request_parts.specs.Calls.{call, call_of}
use Rattle.request_parts.proofs.calls.read_call.Goals as goal

pub returns-in_err-kind-clause-means : goal.returns-in_err-kind-clause-means
unfolding call
returns-in_err-kind-clause-means c = ap (call_of _) (handed_on _ c.from_residual.ensures.1) ∙ sym (bind_fault _ _ _ (sym c.in_err-kind.ensures.means))

pub returns-clause-means : goal.returns-clause-means
unfolding call
returns-clause-means c = c.read_body.ensures.means ∙ sym (bind_got _ _ _ (sym c.in_ok-kind.ensures.means))
