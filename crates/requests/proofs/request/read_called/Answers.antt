use mathlib.Core.Path.{sym, ap, ◌∙◌}
use Rattle.reading.proofs.Places.{handed_on}
use Rattle.requests.specs.Requests.{operation_of}
use Rattle.requests.proofs.Requests.{called_none, called_got, called_fault}
use Rattle.requests.proofs.request.read_called.Goals as goal

pub returns-then-left-taken-clause-means : goal.returns-then-left-taken-clause-means
returns-then-left-taken-clause-means c = sym (called_none _ _ _ _ c.size-taken.ensures c.left.ensures c.if-left-taken.true)

pub returns-in_err-call-clause-means : goal.returns-in_err-call-clause-means
returns-in_err-call-clause-means c =
    ap (operation_of _) (handed_on _ c.from_residual.ensures.1)
    ∙ sym (called_fault _ _ _ _ c.size-taken.ensures c.left.ensures c.if-left-taken.false (sym c.in_err-call.ensures.means))

pub returns-clause-means : goal.returns-clause-means
returns-clause-means c = sym (called_got _ _ _ _ c.size-taken.ensures c.left.ensures c.if-left-taken.false (sym c.in_ok-call.ensures.means))
