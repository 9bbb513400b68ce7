use Rattle.flattening.specs.File.{out2}
use Rattle.flattener.proofs.Bodies.{body_none, body_written}
use Rattle.flattener.proofs.body.write_body.Goals as goal

pub returns-then-t-eq255 : goal.returns-then-t-eq255
unfolding out2
returns-then-t-eq255 c d n L k = rw (body_none d L _ k c.if-t-eq255.true) c.put_short.ensures

pub returns : goal.returns
returns c d n L k = body_written d L _ k c.if-t-eq255.false c.offset_at-place.ensures (c.body_size-size.ensures d n L k) c.copy.ensures
