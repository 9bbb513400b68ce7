use native.Mathlib.Omega.{arith}
use mathlib.Core.Path.{◌≡◌, sym, ap, ap₂, ◌∙◌}
use lib.IntN.{pos, ◌+ℤ◌}
use mir.Syntax.{w64}
use mir.Val.{to_z, of_z}
use mir.ValLaws.{to_z-of_z, to_z_pos}
use borrow.Author.Tests.{le-leb}
use Rattle.std.specs.Int.{int_div_euclid}
use Rattle.numbers.specs.Integer.{floor_div}
use Rattle.numbers.specs.Value.{exactly}
use Rattle.lists.proofs.Bools.{cond_yes}
use Rattle.numbers.proofs.Integers.{read_wide, sum_read, floored, floored_mag, total_within, step_fits}
use Rattle.numbers.proofs.Values.{exactly_cast}
use Rattle.numbers.proofs.value.steps_after.Goals as goal

pub returns : goal.returns
returns c =
    let whole : to_z w64 (of_z w64 c.div_euclid.result) ≡ floor_div (c.args.remainder +ℤ pos c.args.numerator) c.args.denominator =
    to_z-of_z w64 _ (record { sfits = c.div_euclid.type_inv }) ∙ c.div_euclid.ensures
    ∙ ap₂ int_div_euclid (sum_read _ c.ranges.remainder c.total-sum.type_inv c.total-sum.ensures.is) (to_z_pos w64 _ (omega arith)) ∙ floored _ _ in
    c.ok.ensures.value ∙ exactly_cast _ _ c.try_from.ensures
    ∙ rw (read_wide c.args.steps c.ranges.steps, whole)
    (ap exactly (to_z-of_z w64 _ (step_fits _ _ c.ranges.steps (omega (
      arith,
      floored_mag (c.args.remainder +ℤ pos c.args.numerator) c.args.denominator,
      total_within c.args.remainder c.args.numerator c.ranges.remainder c.ranges.numerator.fits,
    )))))
    ∙ sym (cond_yes _ _ (le-leb 1 c.args.denominator (omega arith)))
