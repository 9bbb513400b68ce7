use native.Mathlib.Omega.{arith}
use lib.ListN.{get_or}
use Rattle.flattener.proofs.Records.{adding_none, adding_more, adding_all, no_edge, named, record_length, writable_lt, writable_le, writable_head, writable_body}
use Rattle.flattener.proofs.record.edges_length.Goals as goal

pub loop-i-init : goal.loop-i-init
loop-i-init c = (omega arith, λ d es W. adding_none _ _)

pub loop-i-preserved : goal.loop-i-preserved
loop-i-preserved c = (
  omega arith,
  λ d es W.
      let e = get_or es c.loop-i.i no_edge in
      let b = writable_body W _ c.loop-i-test.true in
      let t = c.transition_at-t.ensures e (writable_head W _ c.loop-i-test.true) in
      adding_more _ _ no_edge (c.loop-i.invariant.1 d es W) (writable_lt W _ c.loop-i-test.true) (record_length d e b t (c.body_size-size.ensures d W.counts W.laid (named d e b t))),
)

pub returns : goal.returns
returns c = record { means = λ d es W. adding_all _ _ (c.loop-i.invariant.1 d es W) (writable_le W _ c.loop-i-test.false); small = omega arith }
