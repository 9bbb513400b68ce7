use mathlib.Core.Path.{refl, sym, ◌∙◌}
use Rattle.reading.proofs.Places.{got_within, framed_got, framed_long}
use Rattle.reading.proofs.field.part.Goals as goal

pub returns-then-s-from-clause-means : goal.returns-then-s-from-clause-means
returns-then-s-from-clause-means c = λ q b h. sym (framed_long q b _ _ _ (h ∙ got_within _ _ c.min-from.ensures) refl c.if-s-from.true)

pub returns-else-s-from-clause-means : goal.returns-else-s-from-clause-means
returns-else-s-from-clause-means c = λ q b h. sym (framed_got q b _ _ _ (h ∙ got_within _ _ c.min-from.ensures) refl c.if-s-from.false)
