use native.Mathlib.Omega.{arith}
use mathlib.Core.Path.{◌≡◌, sym, ap₂, ◌∙◌}
use lib.IntN.{pos, ◌+ℤ◌}
use mir.Syntax.{w64}
use mir.ValLaws.{to_z-of_z, to_z_pos}
use borrow.Author.Tests.{le-leb}
use Rattle.std.specs.Int.{int_rem_euclid}
use Rattle.numbers.specs.Integer.{floor_mod}
use Rattle.lists.proofs.Bools.{cond_yes}
use Rattle.numbers.proofs.Integers.{read_back, sum_read, rest, rest_mag}
use Rattle.numbers.proofs.signed.remainder_after.Goals as goal

pub returns : goal.returns
returns c =
    let e : c.rem_euclid.result ≡ floor_mod (c.args.remainder +ℤ pos c.args.numerator) c.args.denominator =
    c.rem_euclid.ensures.value ∙ ap₂ int_rem_euclid (sum_read _ c.ranges.remainder c.total.type_inv c.total.ensures.is) (to_z_pos w64 _ (omega arith)) ∙ rest _ _ in
    rw (to_z-of_z w64 c.rem_euclid.result (record { sfits = c.rem_euclid.type_inv }))
    (read_back _ (rw e (omega (arith, rest_mag (c.args.remainder +ℤ pos c.args.numerator) c.args.denominator (omega arith)))))
    ∙ e
    ∙ sym (cond_yes _ _ (le-leb 1 c.args.denominator (omega arith)))
