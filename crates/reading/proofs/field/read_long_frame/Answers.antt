use mathlib.Core.Path.{sym, ap, ◌∙◌}
use Rattle.reading.specs.Places.{part_of}
use Rattle.reading.proofs.Places.{framed_fault, handed_on}
use Rattle.reading.proofs.field.read_long_frame.Goals as goal

pub returns-in_err-size-clause-means : goal.returns-in_err-size-clause-means
returns-in_err-size-clause-means c = ap (part_of _) (handed_on _ c.from_residual.ensures.1) ∙ sym (framed_fault _ _ (sym c.in_err-size.ensures.means))
