use Rattle.flatten_places.proofs.Underneath.{seen_none, seen_more, seen_all}
use lib.ListN.{length-set}
use native.Mathlib.Omega.{arith}
use mathlib.Core.Path.{refl}
use borrow.Author.Rules.{rules}
use Rattle.flatten_places.proofs.below.gathered.Goals as goal

pub returns-then-states-gt48 : goal.returns-then-states-gt48
returns-then-states-gt48 c = λ d R N. absurd (omega (arith, c.if-states-gt48.true, N, R.few))

pub loop-s-init : goal.loop-s-init
loop-s-init c = (search rules, c.if-states-gt48.false, λ d R N. seen_none d _ _ _ R N)

pub loop-s-preserved : goal.loop-s-preserved
loop-s-preserved c = (simp length-set c.loop-s.invariant.0, c.loop-s.invariant.1, λ d R N. seen_more d _ _ _ R N _ _ (c.loop-s.invariant.2 d R N) c.loop-s.invariant.0 c.loop-s-test.true (omega (arith, c.loop-s.auto.s)) refl)

pub returns : goal.returns
returns c = λ d R N. seen_all d _ _ _ R N _ _ (c.loop-s.invariant.2 d R N) c.loop-s-test.false
