-- Laws of guards: the kind that decides how a guard goes on.
use mathlib.Core.Path.{◌≡◌, ◌∙◌}
use mathlib.Core.List.{List, [], ◌∷◌}
use native.Mathlib.Omega.{arith}
use borrow.Author.Tests.{ltb-true}
use Prim.Native.Nat.{ℕ, zero, suc, ◌≤◌}
use lib.Dec.{ltb}
use lib.ListN.{get_or}
use Rattle.reading.specs.Reading.{Fault, got, fault, byte, such}
use Rattle.labels.specs.Guard.{relation, clock, ticks, data_guard, clock_guard, difference_guard, guard}
use Rattle.reading.proofs.Places.{bind_got, bind_fault}
use Rattle.reading.proofs.Reading.{such_at}
use Rattle.reading.proofs.InFront.{InFront, yield_front, bind_front, such_front, byte_front, byte4_front}
use Rattle.expr.proofs.Expressions.{expression_front}

-- what follows the kind
module _ (clocks variables : ℕ) (b : List ℕ) {k : ℕ} {t : List ℕ} (h : such byte (λ k. ltb k 3) b ≡ got k t) where
  pub guard_data : k ≡ 0 → guard clocks variables b ≡ data_guard variables t
  unfolding guard
  guard_data e = bind_got _ _ b h ∙ rw e

  pub guard_clock : k ≡ 1 → guard clocks variables b ≡ clock_guard clocks t
  unfolding guard
  guard_clock e = bind_got _ _ b h ∙ rw e

  pub guard_difference : 2 ≤ k → guard clocks variables b ≡ difference_guard clocks t
  unfolding guard
  guard_difference m = bind_got _ _ b h ∙ rw (let z : k ≡ 2 = omega (arith, ltb-true k 3 (such_at byte _ b h).0) in z)

pub guard_fault : (clocks variables : ℕ) (b : List ℕ) {f : Fault} → such byte (λ k. ltb k 3) b ≡ fault f → guard clocks variables b ≡ fault f
unfolding guard
guard_fault clocks variables b h = bind_fault _ _ b h

-- guards are read in front, whatever follows them
relation_front : InFront relation
unfolding relation
relation_front = bind_front _ _ (such_front _ _ byte_front) λ n. yield_front _

ticks_front : InFront ticks
unfolding ticks
ticks_front = such_front _ _ byte4_front

module _ (clocks variables : ℕ) where
  clock_front : InFront (clock clocks)
  unfolding clock
  clock_front = such_front _ _ byte_front

  data_front : InFront (data_guard variables)
  unfolding data_guard
  data_front = bind_front _ _ relation_front λ r. bind_front _ _ (expression_front _ _) λ a. bind_front _ _ (expression_front _ _) λ b. yield_front _

  guards_front : (k : ℕ) → InFront (get_or (data_guard variables ∷ clock_guard clocks ∷ difference_guard clocks ∷ []) k (data_guard variables))
  unfolding clock_guard difference_guard
  guards_front zero = data_front
  guards_front (suc zero) = bind_front _ _ clock_front λ c. bind_front _ _ relation_front λ r. bind_front _ _ ticks_front λ n. yield_front _
  guards_front (suc (suc zero)) = bind_front _ _ clock_front λ c. bind_front _ _ clock_front λ d. bind_front _ _ relation_front λ r. bind_front _ _ ticks_front λ n. yield_front _
  guards_front (suc (suc (suc k))) = data_front

  pub guard_front : InFront (guard clocks variables)
  unfolding guard
  guard_front = bind_front _ _ (such_front _ _ byte_front) λ k. guards_front k
