-- Laws of answers.
use mathlib.Core.Path.{◌≡◌, refl}
use mathlib.Core.Bool.{Bool, true, false}
use Prim.Native.Nat.{ℕ}
use native.Mathlib.Omega.{arith}
use Rattle.reading.specs.Answer.{Answer, done, refused, unless, ◌>>=◌}

-- what is not refused passes the test, and goes on
pub unless_at : {A : Type 0} {x : A} (n : ℕ) (b : Bool) (a : Answer A) → unless n b a ≡ done x → (b ≡ true) × (a ≡ done x)
unfolding unless
unless_at n true a h = (refl, h)
unless_at n false a h = absurd (let z : ◌≡◌ {A = ℕ} 0 1 = cc in omega arith)

-- and so does what is not refused by this number
pub unless_past : {A : Type 0} {x : Answer A} (n : ℕ) (b : Bool) (a : Answer A) → (refused n ≡ x → ⊥) → unless n b a ≡ x → (b ≡ true) × (a ≡ x)
unfolding unless
unless_past n true a f h = (refl, h)
unless_past n false a f h = absurd (f h)

pub unless_by : {A : Type 0} (n : ℕ) {b : Bool} (a : Answer A) → b ≡ true → unless n b a ≡ a
unfolding unless
unless_by n a h = rw h

-- an answer of two steps is the second's, on what the first answers
pub then_at : {A B : Type 0} {y : B} (a : Answer A) (k : A → Answer B) → (a >>= k) ≡ done y → (x : A) × (a ≡ done x) × (k x ≡ done y)
unfolding ◌>>=◌
then_at (done x) k h = (x, refl, h)
then_at (refused n) k h = absurd (let z : ◌≡◌ {A = ℕ} 0 1 = cc in omega arith)

-- a refusal is no answer
pub refused_not : {A X : Type 0} {n : ℕ} {a : A} → refused n ≡ done a → X
refused_not e = absurd (let z : ◌≡◌ {A = ℕ} 0 1 = cc in omega arith)

-- an answer is of one thing, and a refusal has one number
pub done_injective : {A : Type 0} {a b : A} → done a ≡ done b → a ≡ b
done_injective e = cc

pub refused_injective : {A : Type 0} {m n : ℕ} → ◌≡◌ {A = Answer A} (refused m) (refused n) → m ≡ n
refused_injective e = cc
