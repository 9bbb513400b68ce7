use borrow.Author.Rules.{rules}
use mathlib.Core.Path.{◌∙◌, ap}
use mathlib.Core.Bool.{cond}
use mir.Syntax.{w32}
use mir.Val.{SFits}
use lib.IntN.{ℤ, pos}
use Rattle.numbers.specs.Integer.{is_divisor, floor_div, floor_mod}
use Rattle.numbers.proofs.Integers.{read_back}
use Rattle.numbers.proofs.Values.{divided_none, divided_quotient, divided_remainder}
use Rattle.numbers.proofs.value.divide.Goals as goal

pub returns-in_err-z : goal.returns-in_err-z
returns-in_err-z c = c.from_residual.ensures ∙ divided_none c.args.code c.args.d c.in_err-z.was

pub returns-then-code-eq5 : goal.returns-then-code-eq5
returns-then-code-eq5 c =
    let fits : SFits w32 c.in_ok-z.z = search rules in
    divided_quotient c.args.code c.args.d c.in_ok-z.was c.if-code-eq5.true
    (read_back _ c.quotient.type_inv ∙ c.quotient.ensures ∙ ap (λ (z : ℤ). cond (is_divisor c.args.d) (floor_div z c.args.d) (pos 0)) (read_back c.in_ok-z.z fits.sfits))

pub returns-else-code-eq5 : goal.returns-else-code-eq5
returns-else-code-eq5 c =
    let fits : SFits w32 c.in_ok-z.z = search rules in
    divided_remainder c.args.code c.args.d c.in_ok-z.was c.if-code-eq5.false
    (read_back _ c.remainder.type_inv ∙ c.remainder.ensures ∙ ap (λ (z : ℤ). cond (is_divisor c.args.d) (floor_mod z c.args.d) (pos 0)) (read_back c.in_ok-z.z fits.sfits))
