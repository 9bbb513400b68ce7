use Rattle.flattener.proofs.Writing.{wrote_then, word_short}
use Rattle.flattener.proofs.write.put_word.Goals as goal

pub returns : goal.returns
returns c = rw (word_short _) (wrote_then c.put_short-next.ensures c.put_short.ensures)
