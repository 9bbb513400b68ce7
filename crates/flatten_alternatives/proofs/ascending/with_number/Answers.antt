use mathlib.Core.Path.{◌≡◌}
use native.Mathlib.Omega.{arith}
use Prim.Native.Nat.{◌<◌}
use lib.ListN.{get_or}
use Rattle.flatten_alternatives.proofs.Keeping.{kept_still, kept_found, kept_full, kept_more}
use Rattle.flatten_alternatives.proofs.ascending.with_number.Goals as goal
use Rattle.flatten_alternatives.proofs.ascending.with_number.Goals.{else-at-count-via-then-at-count+else-items-at, else-at-count-via-else-at-count}

pub returns-then-count-gt1024 : goal.returns-then-count-gt1024
returns-then-count-gt1024 c xs k = kept_still _ xs _ _ k c.if-count-gt1024.true

pub returns-then-items-at : goal.returns-then-items-at
returns-then-items-at c xs k = kept_found _ xs _ _ c.if-count-gt1024.false k _ (c.place_of-at.ensures.place xs k) c.if-at-count.true c.if-items-at.true

pub returns-then-count-eq1024 : goal.returns-then-count-eq1024
returns-then-count-eq1024 c xs k =
    let apart : c.place_of-at.result < c.args.count → get_or c.args.items.now c.place_of-at.result 0 ≡ c.args.x → ⊥ = elim c.else-at-count.branch [
      | else-at-count-via-then-at-count+else-items-at w ↦ λ h. w.if-items-at.false
      | else-at-count-via-else-at-count w ↦ λ h e. absurd (omega (arith, w.if-at-count.false))
    ] in
    kept_full _ xs _ _ c.if-count-gt1024.false k _ (c.place_of-at.ensures.place xs k) apart c.if-count-eq1024.true

pub returns : goal.returns
returns c xs k =
    let apart : c.place_of-at.result < c.args.count → get_or c.args.items.now c.place_of-at.result 0 ≡ c.args.x → ⊥ = elim c.else-at-count.branch [
      | else-at-count-via-then-at-count+else-items-at w ↦ λ h. w.if-items-at.false
      | else-at-count-via-else-at-count w ↦ λ h e. absurd (omega (arith, w.if-at-count.false))
    ] in
    kept_more _ xs _ _ c.if-count-gt1024.false k _ (c.place_of-at.ensures.place xs k) apart _ c.put_in.array_long c.if-count-eq1024.false c.put_in.ensures
