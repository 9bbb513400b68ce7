use Rattle.flatten_tables.proofs.Bounding.{carried_first, carried_none, carried_join}
use Rattle.flatten_tables.proofs.bound.carried.Goals as goal

pub returns-then-p-eq0 : goal.returns-then-p-eq0
returns-then-p-eq0 c d R K h e f = carried_first d R c.args.kinds.now K _ h c.if-p-eq0.true e

pub returns-then-byte_at-ne2 : goal.returns-then-byte_at-ne2
returns-then-byte_at-ne2 c d R K h e f = carried_none d R c.args.kinds.now K _ h c.if-p-eq0.false c.byte_at-q.ensures c.byte_at.ensures c.if-byte_at-ne2.true

pub returns : goal.returns
returns c d R K h e f =
    carried_join d R c.args.kinds.now K _ h c.if-p-eq0.false c.byte_at-q.ensures c.byte_at.ensures
    c.if-byte_at-ne2.false e f c.join.ensures
