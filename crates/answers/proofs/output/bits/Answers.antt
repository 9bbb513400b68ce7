use mathlib.Core.Path.{sym, ap, ◌∙◌}
use mir.Syntax.{w32}
use mir.Val.{to_z, of_z}
use Rattle.numbers.proofs.Integers.{read_back, signed_is}
use Rattle.answers.proofs.output.bits.Goals as goal

pub returns : goal.returns
returns c =
    sym (signed_is _) ∙ ap (to_z w32) c.cast_unsigned.ensures
    ∙ ap (λ z. to_z w32 (of_z w32 z)) {y = c.args.z} (read_back _ c.ranges.z.sfits) ∙ read_back _ c.ranges.z.sfits
