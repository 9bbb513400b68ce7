use mathlib.Core.Path.{◌≡◌, refl, sym, ◌∙◌}
use Prim.Native.Nat.{◌<◌}
use native.Mathlib.Omega.{arith}
use native.Mathlib.Nat.{min-eq_left, min-le_right}
use lib.ListN.{length, length-set}
use Rattle.flatten_places.proofs.Filling.{columned_none, columned_more, columned_all}
use Rattle.flatten_places.proofs.transition.columns.Goals as goal

pub loop-t-init : goal.loop-t-init
loop-t-init c = ((omega arith, omega (arith, c.min-count.ensures, min-le_right c.args.counts.transitions 64)), refl, refl, refl, refl, λ k n L h. columned_none k _ _ _ _)

pub loop-t-preserved : goal.loop-t-preserved
loop-t-preserved c = (
  (omega (arith, c.loop-t-test.true), c.loop-t.invariant.0.1),
  simp length-set c.loop-t.invariant.1,
  simp length-set c.loop-t.invariant.2,
  simp length-set c.loop-t.invariant.3,
  simp length-set c.loop-t.invariant.4,
  λ k n L h.
      let g : c.loop-t.t < n.transitions = omega (arith, h) in
      columned_more k _ _ _ _ _ (c.loop-t.invariant.5 k n L (omega (arith, h))) c.loop-t.invariant.1 c.loop-t.invariant.2 c.loop-t.invariant.3 c.loop-t.invariant.4 (omega (arith, c.loop-t-test.true, c.loop-t.invariant.0))
      (c.source_of.ensures k n L g) (c.destination_of.ensures k n L g)
      (c.exit_of.ensures k n L g) (c.entry_of.ensures k n L g),
)

pub returns : goal.returns
returns c = λ k L h.
    let n : c.min-count.result ≡ length k.transitions = c.min-count.ensures ∙ min-eq_left (omega (arith, L.transitions, h)) ∙ sym L.transitions in
    columned_all k _ _ _ _ _ (c.loop-t.invariant.5 k _ L (omega (arith, c.loop-t.invariant.0, n, L.transitions))) _ n (omega (arith, n, h)) c.loop-t-test.false
