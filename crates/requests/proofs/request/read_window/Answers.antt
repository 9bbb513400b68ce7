use mathlib.Core.Path.{sym, ap, ◌∙◌}
use Rattle.reading.specs.Reading.{yield}
use Rattle.reading.proofs.Places.{bind_got, bind_fault, handed_on}
use Rattle.requests.specs.Requests.{windowed, operation_of}
use Rattle.requests.proofs.request.read_window.Goals as goal

pub returns-in_err-window-clause-means : goal.returns-in_err-window-clause-means
unfolding windowed
returns-in_err-window-clause-means c = ap (operation_of _) (handed_on _ c.from_residual.ensures.1) ∙ sym (bind_fault _ _ _ (sym c.in_err-window.ensures.means))

pub returns-clause-means : goal.returns-clause-means
unfolding windowed yield
returns-clause-means c = sym (bind_got _ _ _ (sym c.in_ok-window.ensures.means))
