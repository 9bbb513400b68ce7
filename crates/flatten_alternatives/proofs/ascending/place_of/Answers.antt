use mathlib.Core.Path.{◌≡◌, refl, subst}
use mathlib.Core.Logic.{◌⊎◌, inl, inr}
use Prim.Native.Nat.{ℕ, ◌+◌, ◌-◌, ◌/◌, ◌≤◌}
use lib.ListN.{get_or}
use native.Mathlib.Omega.{arith}
use Rattle.flatten_alternatives.proofs.Keeping.{before_next, splits_at}
use Rattle.flatten_alternatives.proofs.ascending.place_of.Goals as goal
use Rattle.flatten_alternatives.proofs.ascending.place_of.Goals.{then-count-eq0-via-then-count-eq0, then-count-eq0-via-else-count-eq0+then-items-count}

pub returns-then-count-eq0-clause-place : goal.returns-then-count-eq0-clause-place
returns-then-count-eq0-clause-place c = elim c.then-count-eq0.branch [
  | then-count-eq0-via-then-count-eq0 w ↦ λ xs k. splits_at _ xs _ _ c.requires k _ (omega arith) (inl w.if-count-eq0.true) (inl refl)
  | then-count-eq0-via-else-count-eq0+then-items-count w ↦ λ xs k. splits_at _ xs _ _ c.requires k _ (omega arith) (inr w.if-items-count.true) (inl refl)
]

pub loop-low-init : goal.loop-low-init
loop-low-init c = (omega arith, omega arith, inl refl, inl refl)

pub loop-low-preserved-then-y-x : goal.loop-low-preserved-then-y-x
loop-low-preserved-then-y-x c = (omega arith, omega arith, inr (before_next c.args.items.now (c.loop-low.low + (c.loop-low.high - c.loop-low.low) / 2) _ c.if-y-x.true), c.loop-low.invariant.3)

pub loop-low-preserved : goal.loop-low-preserved
loop-low-preserved c = (omega arith, omega arith, c.loop-low.invariant.2, inr c.if-y-x.false)

pub returns-clause-place : goal.returns-clause-place
returns-clause-place c xs k = splits_at _ xs _ _ c.requires k _ (omega arith) c.loop-low.invariant.2 (subst (λ (i : ℕ). (i ≡ c.args.count) ⊎ (c.args.x ≤ get_or c.args.items.now i 0)) (let z : c.loop-low.high ≡ c.loop-low.low = omega arith in z) c.loop-low.invariant.3)
