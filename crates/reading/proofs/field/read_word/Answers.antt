use mathlib.Core.Path.{sym}
use Rattle.reading.proofs.Places.{byte4_some, byte4_none}
use Rattle.reading.proofs.field.read_word.Goals as goal

pub returns-then-left-lt4-clause-means : goal.returns-then-left-lt4-clause-means
returns-then-left-lt4-clause-means c = sym (byte4_none _ _ c.left.ensures c.if-left-lt4.true)

pub returns-else-left-lt4-clause-means : goal.returns-else-left-lt4-clause-means
returns-else-left-lt4-clause-means c = rw c.word_of.ensures (sym (byte4_some _ _ c.left.ensures c.if-left-lt4.false))
