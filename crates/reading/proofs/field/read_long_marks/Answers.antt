use mathlib.Core.Path.{sym, ap, ◌∙◌}
use Rattle.reading.specs.Places.{read_of}
use Rattle.reading.proofs.Places.{such_got, such_not, such_fault, handed_on}
use Rattle.reading.proofs.field.read_long_marks.Goals as goal

pub returns-in_err-x : goal.returns-in_err-x
returns-in_err-x c = ap (read_of _) (handed_on _ c.from_residual.ensures.1) ∙ sym (such_fault _ _ _ (sym c.in_err-x.ensures.means))

pub returns-then-in_width : goal.returns-then-in_width
returns-then-in_width c = sym (such_got _ _ _ (sym c.in_ok-x.ensures.means) (sym c.in_width.ensures ∙ c.if-in_width.true))

pub returns-else-in_width : goal.returns-else-in_width
returns-else-in_width c = sym (such_not _ _ _ (sym c.in_ok-x.ensures.means) (sym c.in_width.ensures ∙ c.if-in_width.false))
