use mathlib.Core.Path.{sym}
use Rattle.reading.proofs.Places.{byte_some, byte_none}
use Rattle.reading.proofs.field.read_byte.Goals as goal

pub returns-then-at-s-clause-means : goal.returns-then-at-s-clause-means
returns-then-at-s-clause-means c = sym (byte_some _ _ c.if-at-s.true)

pub returns-else-at-s-clause-means : goal.returns-else-at-s-clause-means
returns-else-at-s-clause-means c = sym (byte_none _ _ c.if-at-s.false)
