use mathlib.Core.Path.{sym, ap, ◌∙◌}
use Rattle.console.specs.Places.{with_digit}
use Rattle.tick_lines.specs.declared.line.Line.TheVariants as Li
use Rattle.tick_lines.proofs.Lines.{blank_digit, blank_other, digits_digit, digits_other, ended_byte, bad_byte}
use Rattle.tick_lines.proofs.line.with_byte.Goals as goal

pub returns-then-is_digit : goal.returns-then-is_digit
returns-then-is_digit c = ap Li.Digits (c.with_digit.ensures ∙ ap (with_digit 0) c.digit_value.ensures) ∙ blank_digit _ c.in-Blank.is (sym c.is_digit.ensures ∙ c.if-is_digit.true)

pub returns-then-is_digit-2 : goal.returns-then-is_digit-2
returns-then-is_digit-2 c = ap Li.Digits (c.with_digit-then-is_digit-2.ensures ∙ ap (with_digit _) c.digit_value-then-is_digit-2.ensures) ∙ digits_digit _ c.in-Digits.is (sym c.is_digit-in-Digits.ensures ∙ c.if-is_digit-2.true)

pub returns-else-is_digit : goal.returns-else-is_digit
returns-else-is_digit c = c.with_other.ensures ∙ blank_other _ c.in-Blank.is (sym c.is_digit.ensures ∙ c.if-is_digit.false)

pub returns-else-is_digit-2 : goal.returns-else-is_digit-2
returns-else-is_digit-2 c = c.with_other-else-is_digit-2.ensures ∙ digits_other _ c.in-Digits.is (sym c.is_digit-in-Digits.ensures ∙ c.if-is_digit-2.false)

pub returns-in-Ended : goal.returns-in-Ended
returns-in-Ended c = c.with_other-in-Ended.ensures ∙ ended_byte _ c.in-Ended.is

pub returns-in-Bad : goal.returns-in-Bad
returns-in-Bad c = bad_byte _ c.in-Bad.is
