use mathlib.Core.Path.{sym, ap, ◌∙◌}
use Rattle.reading.specs.Places.{read_of}
use Rattle.reading.proofs.Places.{such_got, such_not, such_fault, handed_on}
use Rattle.reading.proofs.field.read_byte_or_none.Goals as goal

pub returns-in_err-x : goal.returns-in_err-x
returns-in_err-x c = ap (read_of _) (handed_on _ c.from_residual.ensures.1) ∙ sym (such_fault _ _ _ (sym c.in_err-x.ensures.means))

pub returns-then-known_or_none : goal.returns-then-known_or_none
returns-then-known_or_none c = sym (such_got _ _ _ (sym c.in_ok-x.ensures.means) (sym c.known_or_none.ensures ∙ c.if-known_or_none.true))

pub returns-else-known_or_none : goal.returns-else-known_or_none
returns-else-known_or_none c = sym (such_not _ _ _ (sym c.in_ok-x.ensures.means) (sym c.known_or_none.ensures ∙ c.if-known_or_none.false))
