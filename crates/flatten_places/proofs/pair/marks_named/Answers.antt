use mathlib.Core.Path.{refl}
use lib.ListN.{length-set}
use Rattle.flatten_places.proofs.Naming.{named_none, named_not, named_more, named_all}
use native.Mathlib.Omega.{arith}
use Rattle.flatten_places.proofs.pair.marks_named.Goals as goal
use Rattle.flatten_places.proofs.pair.marks_named.Goals.{then-s-lt48, else-s-lt48}

pub loop-t-init : goal.loop-t-init
loop-t-init c = (omega arith, refl, named_none _ _)

pub loop-t-preserved : goal.loop-t-preserved
loop-t-preserved c =
    elim c.if-s-lt48.branch [
      | then-s-lt48 w ↦
          rw w.named-is (omega (arith, c.loop-t-test.true), simp length-set c.loop-t.invariant.1, named_more _ _ _ _ c.loop-t.invariant.2 _ _ _ c.byte_at-s.ensures c.byte_at-m.ensures c.loop-t.invariant.1 w.if-s-lt48.true w.with_mark.ensures)
      | else-s-lt48 w ↦
          rw w.named-is (omega (arith, c.loop-t-test.true), c.loop-t.invariant.1, named_not _ _ _ _ c.loop-t.invariant.2 (omega (arith, c.byte_at-s.ensures, w.if-s-lt48.false)))
    ]

pub returns : goal.returns
returns c = named_all _ _ _ _ c.loop-t.invariant.2 _ c.loop-t-test.false c.loop-t.invariant.0
