use Rattle.flattener.proofs.Records.{named, record_written}
use Rattle.flattener.proofs.record.write_edge.Goals as goal

pub returns : goal.returns
returns c d n e L h b =
    let t = c.transition_at-t.ensures e h in
    let k = named d e b t in
    record_written d e b _ _ h t (c.body_size-size.ensures d n L k) c.put_short-head.ensures c.copy-body.ensures
    (c.write_body.ensures d n L k)
