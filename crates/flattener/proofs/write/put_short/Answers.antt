use Rattle.flattening.specs.File.{out2}
use Rattle.flattener.proofs.Writing.{wrote_then}
use Rattle.flattener.proofs.write.put_short.Goals as goal

pub returns : goal.returns
unfolding out2
returns c = wrote_then c.put-next.ensures c.put.ensures
