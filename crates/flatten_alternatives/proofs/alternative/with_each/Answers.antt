use Rattle.flatten_alternatives.proofs.Keeping.{each_over, each_next, each_last}
use Rattle.flatten_alternatives.proofs.alternative.with_each.Goals as goal

pub returns-then-size-gt1024 : goal.returns-then-size-gt1024
returns-then-size-gt1024 c xs ys k l a = each_over _ _ _ xs ys k _ l c.if-size-gt1024.true

pub loop-x-init : goal.loop-x-init
loop-x-init c = λ xs ys k l a. l

pub loop-x-preserved : goal.loop-x-preserved
loop-x-preserved c = λ xs ys k m a. each_next _ _ _ xs ys k c.if-size-gt1024.false a _ _ _ c.loop-x-test.true (c.with_number-total.ensures _ (c.loop-x.invariant xs ys k m a))

pub returns : goal.returns
returns c = λ xs ys k m a. each_last _ _ _ xs ys k _ _ _ c.if-size-gt1024.false c.loop-x-test.false (c.loop-x.invariant xs ys k m a)
