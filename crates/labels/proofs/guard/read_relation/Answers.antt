use mathlib.Core.Path.{sym, ◌∙◌}
use Rattle.labels.specs.Guard.{relation}
use Rattle.reading.specs.Reading.{yield}
use Rattle.reading.proofs.Places.{bind_got, bind_fault, read_err}
use Rattle.reading.proofs.Reading.{got_by}
use Rattle.labels.proofs.guard.read_relation.Goals as goal

pub returns-in_err-code : goal.returns-in_err-code
unfolding relation
returns-in_err-code c = read_err _ _ _ c.from_residual.ensures.1 (bind_fault _ _ _ (sym c.in_err-code.ensures.means))

pub returns : goal.returns
unfolding relation yield
returns c = got_by c.of.ensures (bind_got _ _ _ (sym c.in_ok-code.ensures.means))
