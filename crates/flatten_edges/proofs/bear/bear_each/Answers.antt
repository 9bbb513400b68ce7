use Rattle.flatten_edges.proofs.Bears.{set_more, set_all}
use Rattle.flatten_edges.proofs.Gathers.{walk_none}
use native.Mathlib.Omega.{arith}
use mathlib.Core.Path.{refl, ap}
use mathlib.Core.List.{List}
use Prim.Native.Nat.{ℕ}
use lib.ListN.{length, get_or}
use Rattle.flatten_edges.proofs.bear.bear_each.Goals as goal

pub returns-then-size-gt1024 : goal.returns-then-size-gt1024
returns-then-size-gt1024 c = λ d p q l xs B. absurd (omega (arith, c.if-size-gt1024.true, B.few))

pub loop-tested-init : goal.loop-tested-init
loop-tested-init c = λ d p q l xs B. walk_none _ xs _ _

pub loop-tested-preserved : goal.loop-tested-preserved
loop-tested-preserved c = λ d p q l xs B.
    set_more d p q l xs _ _ _ _ _ _ _ B _ _ _ _ (c.loop-tested.invariant d p q l xs B) (omega (arith, c.loop-tested-test.true, ap length B.stand))
    (ap (λ (ys : List ℕ). get_or ys c.loop-tested.tested-index 0) B.stand) c.exit_tested-by.ensures refl c.bearing_head-h.ensures c.push-n.ensures

pub returns : goal.returns
returns c = λ d p q l xs B. set_all d p q l xs _ _ _ _ _ _ _ B _ (c.loop-tested.invariant d p q l xs B) (omega (arith, c.loop-tested-test.false, ap length B.stand))
