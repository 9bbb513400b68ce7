use mathlib.Core.Path.{sym, ◌∙◌}
use Rattle.reading.proofs.Places.{such_got, such_not, such_fault, read_err}
use Rattle.updates.proofs.update.read_first.Goals as goal

pub returns-in_err-first : goal.returns-in_err-first
returns-in_err-first c = read_err _ _ _ c.from_residual.ensures.1 (such_fault _ _ _ (sym c.in_err-first.ensures.means))

pub returns-then-opens : goal.returns-then-opens
returns-then-opens c = sym (such_got _ _ _ (sym c.in_ok-first.ensures.means) (sym c.opens.ensures ∙ c.if-opens.true))

pub returns-else-opens : goal.returns-else-opens
returns-else-opens c = sym (such_not _ _ _ (sym c.in_ok-first.ensures.means) (sym c.opens.ensures ∙ c.if-opens.false))
