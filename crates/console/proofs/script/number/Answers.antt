use mathlib.Core.Path.{sym, ◌∙◌}
use native.Mathlib.Omega.{arith}
use borrow.Author.Rules.{rules}
use borrow.Author.Tests.{eqb-false}
use lib.ListN.{length}
use Rattle.console.proofs.Decimals.{digits_none, digits_more, digits_stop, digits_told, number_empty}
use Rattle.console.proofs.script.number.Goals as goal

pub returns-then-is_empty : goal.returns-then-is_empty
returns-then-is_empty c = number_empty _ (search rules)

pub loop-b-init : goal.loop-b-init
loop-b-init c = digits_none _

pub returns-then-not-is_digit : goal.returns-then-not-is_digit
returns-then-not-is_digit c = digits_stop _ _ _ c.loop-b.invariant c.loop-b-test.true (sym c.is_digit.ensures ∙ c.if-not-is_digit.true)

pub loop-b-preserved : goal.loop-b-preserved
loop-b-preserved c =
    digits_more _ _ _ c.loop-b.invariant c.loop-b-test.true (sym c.is_digit.ensures ∙ c.if-not-is_digit.false) c.digit_value.ensures c.with_digit-value.ensures

pub returns : goal.returns
returns c = c.ok.ensures.value ∙ digits_told _ _ _ c.loop-b.invariant (omega (arith, eqb-false (length c.args.word.now) 0 (sym c.is_empty.ensures ∙ c.if-is_empty.false))) c.loop-b-test.false c.try_from.result c.try_from.ensures
