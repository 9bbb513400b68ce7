use Rattle.std.proofs.Common.{arith, ℕ, List, ◌≡◌, ◌≢◌, ◌-◌, ◌≤◌, ◌<◌, sym, ap, ◌∙◌, length, get_or, ℤ, Option}
use Rattle.reading.specs.Reading.{Reader, yield, ◌>>=◌, mapped}
use Rattle.numbers.specs.Value.{combined, divided}
use Rattle.expr.specs.Expression.{divisor, expression, value}
use Rattle.reading.specs.Places.{onward, read_of}
use Rattle.reading.proofs.Places.{handed_on}
use Rattle.expr.proofs.Expressions.{read_empty, read_deep, read_unknown, read_constant, read_variable, read_two, read_by}
use Rattle.expr.proofs.Expressions.{first_fault, second_fault, both_got, rest_fault, rest_got, operator_value, division_value}
use Rattle.expr.proofs.expression.+evaluate.Goals as goal

-- the value of an expression and where it ends, or its fault
abbrev values : List ℤ → ℕ → ℕ → Reader (Option ℤ)
values vars v k s = mapped (value vars) (expression v k s)

module _ (vars : List ℤ) (v k : ℕ) (s : List ℕ) (some : length s ≢ 0) (left : k ≢ 0) where
  -- a sum, difference or product: its arguments, one after the other
  operands : get_or s 0 0 ≢ 0 → get_or s 0 0 ≢ 1 → get_or s 0 0 < 5 →
      values vars v k s ≡ (values vars v (k - 1) >>= λ x. values vars v (k - 1) >>= λ y. yield (combined (get_or s 0 0) x y)) (onward s 1)
  operands n m l = read_two _ _ _ _ some left _ (operator_value _ _ n m l) n m l

  -- a quotient or remainder: its argument, then the divisor
  dividend : 5 ≤ get_or s 0 0 → get_or s 0 0 < 7 →
      values vars v k s ≡ (values vars v (k - 1) >>= λ x t. mapped (divided (get_or s 0 0) x) (divisor t)) (onward s 1)
  dividend n l = read_by _ _ _ _ some left _ (division_value _ _ n l) n l

pub returns-then-s-eq0-clause-means : goal.returns-then-s-eq0-clause-means
returns-then-s-eq0-clause-means t c = sym (read_empty _ _ _ _ c.if-s-eq0.true)

pub returns-then-levels-eq0-clause-means : goal.returns-then-levels-eq0-clause-means
returns-then-levels-eq0-clause-means t c = sym (read_deep _ _ _ _ c.if-s-eq0.false c.if-levels-eq0.true)

pub returns-in_err-x-in-2-clause-means : goal.returns-in_err-x-in-2-clause-means
returns-in_err-x-in-2-clause-means t c =
    let by = operands c.args.values.now c.args.variables c.args.levels c.args.s.now c.if-s-eq0.false c.if-levels-eq0.false (omega arith) (omega arith) (omega arith) in
    ap (read_of _) (handed_on _ c.from_residual.ensures.1) ∙ sym (by ∙ first_fault (values _ _ _) _ _ (sym c.in_err-x-in-2.ensures.means))

pub returns-in_err-y-in-2-clause-means : goal.returns-in_err-y-in-2-clause-means
returns-in_err-y-in-2-clause-means t c =
    let by = operands c.args.values.now c.args.variables c.args.levels c.args.s.now c.if-s-eq0.false c.if-levels-eq0.false (omega arith) (omega arith) (omega arith) in
    ap (read_of _) (handed_on _ c.from_residual-in_err-y-in-2.ensures.1)
    ∙ sym (by ∙ second_fault (values _ _ _) _ _ _ (sym c.in_ok-x-in-2.ensures.means) (sym c.in_err-y-in-2.ensures.means))

pub returns-in_err-x-in-5-clause-means : goal.returns-in_err-x-in-5-clause-means
returns-in_err-x-in-5-clause-means t c =
    let by = dividend c.args.values.now c.args.variables c.args.levels c.args.s.now c.if-s-eq0.false c.if-levels-eq0.false (omega arith) (omega arith) in
    ap (read_of _) (handed_on _ c.from_residual-in_err-x-in-5.ensures.1) ∙ sym (by ∙ first_fault (values _ _ _) _ _ (sym c.in_err-x-in-5.ensures.means))

pub returns-in_err-z-in-5-clause-means : goal.returns-in_err-z-in-5-clause-means
returns-in_err-z-in-5-clause-means t c =
    let by = dividend c.args.values.now c.args.variables c.args.levels c.args.s.now c.if-s-eq0.false c.if-levels-eq0.false (omega arith) (omega arith) in
    ap (read_of _) (handed_on _ c.from_residual-in_err-z-in-5.ensures.1)
    ∙ sym (by ∙ rest_fault (values _ _ _) _ _ _ (sym c.in_ok-x-in-5.ensures.means) (sym c.in_err-z-in-5.ensures.means))

pub returns-in-0-clause-means : goal.returns-in-0-clause-means
unfolding value
returns-in-0-clause-means t c =
    c.read_signed.ensures.means ∙ sym (read_constant _ _ _ _ c.if-s-eq0.false c.if-levels-eq0.false c.in-0.is)

pub returns-in-1-clause-means : goal.returns-in-1-clause-means
unfolding value
returns-in-1-clause-means t c =
    c.evaluate_variable.ensures.means ∙ sym (read_variable _ _ _ _ c.if-s-eq0.false c.if-levels-eq0.false c.in-1.is)

pub returns-in_ok-y-in-2-clause-means : goal.returns-in_ok-y-in-2-clause-means
returns-in_ok-y-in-2-clause-means t c =
    let by = operands c.args.values.now c.args.variables c.args.levels c.args.s.now c.if-s-eq0.false c.if-levels-eq0.false (omega arith) (omega arith) (omega arith) in
    rw c.combine.ensures (sym (by ∙ both_got (values _ _ _) _ _ _ (sym c.in_ok-x-in-2.ensures.means) _ (sym c.in_ok-y-in-2.ensures.means)))

pub returns-in_ok-z-in-5-clause-means : goal.returns-in_ok-z-in-5-clause-means
returns-in_ok-z-in-5-clause-means t c =
    let by = dividend c.args.values.now c.args.variables c.args.levels c.args.s.now c.if-s-eq0.false c.if-levels-eq0.false (omega arith) (omega arith) in
    sym (by ∙ rest_got (values _ _ _) _ _ _ (sym c.in_ok-x-in-5.ensures.means) _ (sym c.in_ok-z-in-5.ensures.means))

pub returns-in_default-clause-means : goal.returns-in_default-clause-means
returns-in_default-clause-means t c = sym (read_unknown _ _ _ c.args.s.now c.if-s-eq0.false (omega arith))
