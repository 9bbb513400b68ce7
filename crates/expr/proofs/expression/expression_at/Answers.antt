use mathlib.Core.Path.{sym, ap, ◌∙◌}
use native.Mathlib.Omega.{arith}
use Rattle.reading.specs.Reading.{skipped}
use Rattle.expr.specs.Expression.{expression}
use Rattle.reading.specs.Places.{reached}
use Rattle.reading.proofs.Places.{length_onward, part_got, part_fault, handed_on}
use Rattle.expr.proofs.Expressions.{read_empty}
use Rattle.expr.proofs.expression.expression_at.Goals as goal

pub returns-then-s-at : goal.returns-then-s-at
unfolding skipped
returns-then-s-at c = sym (read_empty _ _ _ _ (length_onward _ _ ∙ omega arith))

pub returns-in_err-n : goal.returns-in_err-n
returns-in_err-n c =
    ap (reached _ tt) (handed_on _ c.from_residual.ensures.1)
    ∙ sym (part_fault (λ b. skipped (expression c.args.variables 8 b)) c.args.s.now c.args.at (sym c.in_err-n.ensures.means))

pub returns : goal.returns
returns c = sym (part_got (λ b. skipped (expression c.args.variables 8 b)) c.args.s.now c.args.at _ (sym c.in_ok-n.ensures.means))
