use mathlib.Core.Path.{sym, ap, ◌∙◌}
use Rattle.reading.specs.Places.{read_of}
use Rattle.reading.proofs.Places.{such_got, such_not, such_fault, handed_on}
use Rattle.clocks.proofs.clock.read_bound.Goals as goal

pub returns-in_err-b : goal.returns-in_err-b
returns-in_err-b c = ap (read_of _) (handed_on _ c.from_residual.ensures.1) ∙ sym (such_fault _ _ _ (sym c.in_err-b.ensures.means))

pub returns-then-is_bound : goal.returns-then-is_bound
returns-then-is_bound c = sym (such_got _ _ _ (sym c.in_ok-b.ensures.means) (sym c.is_bound.ensures ∙ c.if-is_bound.true))

pub returns-else-is_bound : goal.returns-else-is_bound
returns-else-is_bound c = sym (such_not _ _ _ (sym c.in_ok-b.ensures.means) (sym c.is_bound.ensures ∙ c.if-is_bound.false))
