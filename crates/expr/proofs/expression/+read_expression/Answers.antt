use Rattle.std.proofs.Common.{arith, ℕ, List, ◌≡◌, ◌≢◌, ◌-◌, ◌≤◌, ◌<◌, refl, sym, ap, ◌∙◌, length, get_or}
use Rattle.reading.specs.Reading.{Reader, yield, ◌>>=◌, mapped, skipped}
use Rattle.expr.specs.Expression.{divisor, expression}
use Rattle.reading.specs.Places.{onward, reached}
use Rattle.reading.proofs.Places.{handed_on}
use Rattle.reading.proofs.Reading.{mapped_got, mapped_fault}
use Rattle.expr.proofs.Expressions.{read_empty, read_deep, read_unknown, read_constant, read_variable, read_two, read_by}
use Rattle.expr.proofs.Expressions.{first_fault, second_fault, both_got, rest_fault, rest_got}
use Rattle.expr.proofs.expression.+read_expression.Goals as goal

-- where an expression ends, or its fault
abbrev ends : ℕ → ℕ → Reader (Unit {0})
ends v k s = mapped (λ e. tt) (expression v k s)

module _ (v k : ℕ) (s : List ℕ) (some : length s ≢ 0) (left : k ≢ 0) where
  -- a sum, difference or product: its arguments, one after the other
  operands : get_or s 0 0 ≢ 0 → get_or s 0 0 ≢ 1 → get_or s 0 0 < 5 →
      skipped (expression v k s) ≡ (ends v (k - 1) >>= λ x. ends v (k - 1) >>= λ y. yield tt) (onward s 1)
  unfolding skipped
  operands n m l = read_two _ _ _ _ some left (λ x y. tt) (λ x y. refl) n m l

  -- a quotient or remainder: its argument, then the divisor
  dividend : 5 ≤ get_or s 0 0 → get_or s 0 0 < 7 →
      skipped (expression v k s) ≡ (ends v (k - 1) >>= λ x t. mapped (λ d. tt) (divisor t)) (onward s 1)
  unfolding skipped
  dividend n l = read_by _ _ _ _ some left (λ x d. tt) (λ x d. refl) n l

pub returns-then-s-eq0-clause-means : goal.returns-then-s-eq0-clause-means
unfolding skipped
returns-then-s-eq0-clause-means t c = sym (read_empty _ _ _ _ c.if-s-eq0.true)

pub returns-then-levels-eq0-clause-means : goal.returns-then-levels-eq0-clause-means
unfolding skipped
returns-then-levels-eq0-clause-means t c = sym (read_deep _ _ _ _ c.if-s-eq0.false c.if-levels-eq0.true)

pub returns-in_err-n-in-2-clause-means : goal.returns-in_err-n-in-2-clause-means
unfolding skipped
returns-in_err-n-in-2-clause-means t c =
    let by = operands c.args.variables c.args.levels c.args.s.now c.if-s-eq0.false c.if-levels-eq0.false (omega arith) (omega arith) (omega arith) in
    ap (reached _ tt) (handed_on _ c.from_residual.ensures.1) ∙ sym (by ∙ first_fault (ends _ _) _ _ (sym c.in_err-n-in-2.ensures.means))

pub returns-in_err-m-in-2-clause-means : goal.returns-in_err-m-in-2-clause-means
unfolding skipped
returns-in_err-m-in-2-clause-means t c =
    let by = operands c.args.variables c.args.levels c.args.s.now c.if-s-eq0.false c.if-levels-eq0.false (omega arith) (omega arith) (omega arith) in
    ap (reached _ tt) (handed_on _ c.from_residual-in_err-m-in-2.ensures.1)
    ∙ sym (by ∙ second_fault (ends _ _) _ (λ x y. tt) _ (sym c.in_ok-n-in-2.ensures.means) (sym c.in_err-m-in-2.ensures.means))

pub returns-in_err-n-in-5-clause-means : goal.returns-in_err-n-in-5-clause-means
unfolding skipped
returns-in_err-n-in-5-clause-means t c =
    let by = dividend c.args.variables c.args.levels c.args.s.now c.if-s-eq0.false c.if-levels-eq0.false (omega arith) (omega arith) in
    ap (reached _ tt) (handed_on _ c.from_residual-in_err-n-in-5.ensures.1) ∙ sym (by ∙ first_fault (ends _ _) _ _ (sym c.in_err-n-in-5.ensures.means))

pub returns-in_err-m-in-5-clause-means : goal.returns-in_err-m-in-5-clause-means
unfolding skipped
returns-in_err-m-in-5-clause-means t c =
    let by = dividend c.args.variables c.args.levels c.args.s.now c.if-s-eq0.false c.if-levels-eq0.false (omega arith) (omega arith) in
    ap (reached _ tt) (handed_on _ c.from_residual-in_err-m-in-5.ensures.1)
    ∙ sym (by ∙ rest_fault (ends _ _) _ (λ x t. mapped (λ d. tt) (divisor t)) _ (sym c.in_ok-n-in-5.ensures.means) (mapped_fault _ (sym c.in_err-m-in-5.ensures.means)))

pub returns-in-0-clause-means : goal.returns-in-0-clause-means
unfolding skipped
returns-in-0-clause-means t c =
    c.read_constant.ensures.means ∙ sym (read_constant _ _ _ _ c.if-s-eq0.false c.if-levels-eq0.false c.in-0.is)

pub returns-in-1-clause-means : goal.returns-in-1-clause-means
unfolding skipped
returns-in-1-clause-means t c =
    c.read_variable.ensures.means ∙ sym (read_variable _ _ _ _ c.if-s-eq0.false c.if-levels-eq0.false c.in-1.is)

pub returns-in_ok-m-in-2-clause-means : goal.returns-in_ok-m-in-2-clause-means
unfolding skipped
returns-in_ok-m-in-2-clause-means t c =
    let by = operands c.args.variables c.args.levels c.args.s.now c.if-s-eq0.false c.if-levels-eq0.false (omega arith) (omega arith) (omega arith) in
    sym (by ∙ both_got (ends _ _) _ (λ x y. tt) _ (sym c.in_ok-n-in-2.ensures.means) _ (sym c.in_ok-m-in-2.ensures.means))

pub returns-in_ok-m-in-5-clause-means : goal.returns-in_ok-m-in-5-clause-means
unfolding skipped
returns-in_ok-m-in-5-clause-means t c =
    let by = dividend c.args.variables c.args.levels c.args.s.now c.if-s-eq0.false c.if-levels-eq0.false (omega arith) (omega arith) in
    sym (by ∙ rest_got (ends _ _) _ (λ x t. mapped (λ d. tt) (divisor t)) _ (sym c.in_ok-n-in-5.ensures.means) _ (mapped_got _ (sym c.in_ok-m-in-5.ensures.means)))

pub returns-in_default-clause-means : goal.returns-in_default-clause-means
unfolding skipped
returns-in_default-clause-means t c = sym (read_unknown _ _ _ c.args.s.now c.if-s-eq0.false (omega arith))
