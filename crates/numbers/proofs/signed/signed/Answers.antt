use mathlib.Core.Path.{◌∙◌}
use Rattle.numbers.proofs.Integers.{read_back, signed_is}
use Rattle.numbers.proofs.signed.signed.Goals as goal

pub returns : goal.returns
returns c = read_back _ c.cast_signed.type_inv ∙ c.cast_signed.ensures ∙ signed_is _
