use mathlib.Core.Path.{sym, ap, ◌∙◌}
use native.Mathlib.Omega.{arith}
use Rattle.reading.specs.Reading.{mapped}
use Rattle.reading.specs.Places.{read_of}
use Rattle.expr.specs.Expression.{expression, value}
use Rattle.reading.proofs.Places.{length_onward, part_got, part_fault, handed_on}
use Rattle.expr.proofs.Expressions.{read_empty}
use Rattle.expr.proofs.expression.value_at.Goals as goal

pub returns-then-s-at : goal.returns-then-s-at
returns-then-s-at c = sym (read_empty _ _ _ _ (length_onward _ _ ∙ omega arith))

pub returns-in_err-z : goal.returns-in_err-z
returns-in_err-z c =
    ap (read_of _) (handed_on _ c.from_residual.ensures.1)
    ∙ sym (part_fault (λ b. mapped (value c.args.values.now) (expression c.args.variables 8 b)) c.args.s.now c.args.at (sym c.in_err-z.ensures.means))

pub returns : goal.returns
returns c = sym (part_got (λ b. mapped (value c.args.values.now) (expression c.args.variables 8 b)) c.args.s.now c.args.at _ (sym c.in_ok-z.ensures.means))
