use Rattle.flattener.proofs.Delivered.{delivered_many, delivered_writable, delivered_long, delivered_all}
use Rattle.flattener.proofs.operation.deliver.Goals as goal

pub returns-then-edges-gt1024 : goal.returns-then-edges-gt1024
returns-then-edges-gt1024 c d S R G = delivered_many d _ S G _ c.if-edges-gt1024.true

pub returns-then-out-size : goal.returns-then-out-size
returns-then-out-size c d S R G = delivered_long d _ S G _ c.if-edges-gt1024.false (c.content_length-size.ensures.means d S (delivered_writable d _ S G c.args.out.now c.if-edges-gt1024.false R)) c.if-out-size.true

pub returns : goal.returns
returns c d S R G =
    let W = delivered_writable d _ S G c.args.out.now c.if-edges-gt1024.false R in
    let e = c.content_length-size.ensures.means d S W in
    delivered_all d _ S G _ c.if-edges-gt1024.false e c.if-out-size.false (c.write_network.ensures d S (c.joined_bounds-rows.ensures d R.laid.stated R.tabled R.parents R.entry_marks_lem S.fixed) W e)
