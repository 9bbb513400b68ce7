use Rattle.flattener.proofs.Records.{writable_count}
use Rattle.flattener.proofs.Outputs.{located, network_written}
use Rattle.flattener.proofs.output.write_network.Goals as goal

pub returns : goal.returns
returns c d S B W e =
    network_written d _ S e (writable_count W) c.put-at1.ensures c.put_word-at2.ensures c.write_counts-at3.ensures
    (c.write_locations-at4.ensures d (located d _ S B) S.clocks) (c.write_edges.ensures d _ W)
