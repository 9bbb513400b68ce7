use mathlib.Core.Path.{sym, ap, ◌∙◌}
use Rattle.reading.proofs.Places.{handed_on}
use Rattle.requests.specs.Requests.{operation_of}
use Rattle.requests.proofs.Requests.{run_got, run_fault}
use Rattle.requests.proofs.request.read_run.Goals as goal

pub returns-in_err-next-clause-means : goal.returns-in_err-next-clause-means
returns-in_err-next-clause-means c = ap (operation_of _) (handed_on _ c.from_residual.ensures.1) ∙ sym (run_fault _ (sym c.in_err-next.ensures.means))

pub returns-clause-means : goal.returns-clause-means
returns-clause-means c = sym (run_got _ (sym c.in_ok-next.ensures.means))
