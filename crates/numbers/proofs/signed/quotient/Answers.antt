use mathlib.Core.Path.{sym, ap₂, ◌∙◌}
use mir.Syntax.{w32}
use mir.ValLaws.{to_z_pos}
use Rattle.std.specs.Int.{int_div_euclid}
use Rattle.lists.proofs.Bools.{cond_yes}
use Rattle.numbers.proofs.Integers.{read_back, divisor_range, floored}
use Rattle.numbers.proofs.signed.quotient.Goals as goal

pub returns : goal.returns
returns c =
    read_back _ c.div_euclid.type_inv ∙ c.div_euclid.ensures
    ∙ ap₂ int_div_euclid (read_back c.args.x c.ranges.x.sfits) (to_z_pos w32 c.args.d (divisor_range c.args.d (sym c.if-not-is_divisor.ensures)).1)
    ∙ floored _ _ ∙ sym (cond_yes _ _ (sym c.if-not-is_divisor.ensures))
