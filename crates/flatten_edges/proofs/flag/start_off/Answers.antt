use Rattle.flatten_edges.proofs.Joining.{off_none, off_more, off_all, off_many}
use Rattle.flatten_edges.proofs.flag.start_off.Goals as goal

pub returns-then-automata-gt16 : goal.returns-then-automata-gt16
returns-then-automata-gt16 c = off_many _ _ _ _ _ c.if-automata-gt16.true

pub loop-a-init : goal.loop-a-init
loop-a-init c = off_none _ _ _ _ c.if-automata-gt16.false

pub loop-a-preserved : goal.loop-a-preserved
loop-a-preserved c = off_more _ _ _ _ _ _ _ c.has.result c.loop-a.invariant c.loop-a-test.true
    (cc (c.has.ensures, c.byte_at-at.ensures, c.byte_at-first.ensures))
    c.with_low-off.ensures

pub returns : goal.returns
returns c = off_all _ _ _ _ _ _ c.loop-a.invariant c.loop-a-test.false
