use native.Mathlib.Omega.{arith}
use mathlib.Core.Path.{sym, ap}
use lib.ListN.{length}
use Rattle.flattener.proofs.Bodies.{body_none, body_size}
use Rattle.flattener.proofs.body.body_size.Goals as goal

pub returns-then-t-eq255 : goal.returns-then-t-eq255
returns-then-t-eq255 c d n L k = sym (ap length (body_none d L _ k c.if-t-eq255.true))

pub returns-then-size-lt7 : goal.returns-then-size-lt7
returns-then-size-lt7 c d n L k = absurd (omega (arith, (body_size d L _ k c.if-t-eq255.false c.offset_at-place.ensures c.short_at-size.ensures).0))

pub returns : goal.returns
returns c d n L k = (body_size d L _ k c.if-t-eq255.false c.offset_at-place.ensures c.short_at-size.ensures).1
