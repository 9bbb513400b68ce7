use Rattle.flattener.proofs.Writing.{wrote_then}
use Rattle.flattener.proofs.output.write_counts.Goals as goal

pub returns : goal.returns
returns c =
    wrote_then c.put-at1.ensures (wrote_then c.put-at2.ensures (wrote_then c.put_short-at3.ensures
    (wrote_then c.put-at4.ensures (wrote_then c.put-at5.ensures (wrote_then c.put-at6.ensures c.put.ensures)))))
