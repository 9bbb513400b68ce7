use mathlib.Core.Path.{refl, sym, ap, ◌∙◌}
use Rattle.reading.specs.Reading.{yield}
use Rattle.reading.proofs.Places.{bind_got, bind_fault, handed_on}
use Rattle.request_parts.specs.Calls.{stepped, call_of}
use Rattle.request_parts.proofs.Numbers.{numbers_some, numbers_none}
use Rattle.request_parts.proofs.calls.read_step.Goals as goal

pub returns-in_err-count-clause-means : goal.returns-in_err-count-clause-means
unfolding stepped
returns-in_err-count-clause-means c = ap (call_of _) (handed_on _ c.from_residual.ensures.1) ∙ sym (bind_fault _ _ _ (sym c.in_err-count.ensures.means))

pub returns-then-s-from-clause-means : goal.returns-then-s-from-clause-means
unfolding stepped
returns-then-s-from-clause-means c = sym (bind_got _ _ _ (sym c.in_ok-count.ensures.means) ∙ bind_fault _ _ _ (numbers_none _ _ _ refl c.if-s-from.true))

pub returns-else-s-from-clause-means : goal.returns-else-s-from-clause-means
unfolding stepped yield
returns-else-s-from-clause-means c = sym (bind_got _ _ _ (sym c.in_ok-count.ensures.means) ∙ bind_got _ _ _ (numbers_some _ _ _ refl c.if-s-from.false))
