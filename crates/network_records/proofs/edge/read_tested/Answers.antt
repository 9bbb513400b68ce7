use mathlib.Core.Path.{sym, ◌∙◌}
use Rattle.reading.proofs.Places.{such_got, such_not, such_fault, read_err}
use Rattle.network_records.proofs.edge.read_tested.Goals as goal

pub returns-in_err-x : goal.returns-in_err-x
returns-in_err-x c = read_err _ _ _ c.from_residual.ensures.1 (such_fault _ _ _ (sym c.in_err-x.ensures.means))

pub returns-then-tested_fits : goal.returns-then-tested_fits
returns-then-tested_fits c = sym (such_got _ _ _ (sym c.in_ok-x.ensures.means) (sym c.tested_fits.ensures ∙ c.if-tested_fits.true))

pub returns-else-tested_fits : goal.returns-else-tested_fits
returns-else-tested_fits c = sym (such_not _ _ _ (sym c.in_ok-x.ensures.means) (sym c.tested_fits.ensures ∙ c.if-tested_fits.false))
