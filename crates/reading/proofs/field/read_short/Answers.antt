use mathlib.Core.Path.{sym}
use Rattle.reading.proofs.Places.{byte2_some, byte2_none}
use Rattle.reading.proofs.field.read_short.Goals as goal

pub returns-then-left-lt2-clause-means : goal.returns-then-left-lt2-clause-means
returns-then-left-lt2-clause-means c = sym (byte2_none _ _ c.left.ensures c.if-left-lt2.true)

pub returns-else-left-lt2-clause-means : goal.returns-else-left-lt2-clause-means
returns-else-left-lt2-clause-means c = rw c.short_of.ensures (sym (byte2_some _ _ c.left.ensures c.if-left-lt2.false))
