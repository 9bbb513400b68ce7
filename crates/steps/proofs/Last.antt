-- The last tests of a step: that the code's answer by them is that of the definitions, and which answers come that far.
use mathlib.Core.Path.{◌≡◌, refl, sym, subst, ◌∙◌}
use mathlib.Core.Bool.{Bool, true, false}
use mathlib.Core.Logic.{◌⊎◌, ⊎_elim, ◌≢◌}
use Prim.Native.Nat.{ℕ}
use Rattle.reading.specs.Answer.{Answer, done, refused, unless}
use Rattle.reading.proofs.Answer.{unless_past, refused_not, refused_injective}
use Rattle.steps.specs.Last.{last_tests, answer_by}

-- the last tests answer as the definitions of a step do
last_tests_lem : {A : Type 0} (allowed within kept : Bool) (x : A) →
    answer_by (last_tests allowed within kept) x ≡ unless 20 allowed (unless 28 within (unless 21 kept (done x)))
unfolding last_tests unless
last_tests_lem false within kept x = refl
last_tests_lem true false kept x = refl
last_tests_lem true true false x = refl
last_tests_lem true true true x = refl

pub last_tests_are : {A : Type 0} {a b w v k l : Bool} {x y : A} → a ≡ b → w ≡ v → k ≡ l → x ≡ y →
    answer_by (last_tests a w k) x ≡ unless 20 b (unless 28 v (unless 21 l (done y)))
last_tests_are {a = a} {w = w} {k = k} {x = x} p q r s =
    last_tests_lem a w k x ∙ λ j. unless 20 (p j) (unless 28 (q j) (unless 21 (r j) (done (s j))))

-- the answer of a step whose set is allowed: a result, or a refusal by 28 or 21
abbrev pub Late : {A : Type 0} → Answer A → Type 0
Late x = (k : ℕ) → x ≡ refused k → (k ≡ 28) ⊎ (k ≡ 21)

pub done_late : {A : Type 0} {a : A} → Late (done a)
done_late k e = refused_not (sym e)

pub refused_late : {A : Type 0} {k : ℕ} → ((k ≡ 28) ⊎ (k ≡ 21)) → Late {A = A} (refused k)
refused_late h j e = subst (λ (k : ℕ). (k ≡ 28) ⊎ (k ≡ 21)) (refused_injective e) h

pub late_past : {A : Type 0} {x : Answer A} (n : ℕ) (b : Bool) (a : Answer A) → Late x → n ≢ 28 → n ≢ 21 → unless n b a ≡ x → (b ≡ true) × (a ≡ x)
late_past n b a late p q h = unless_past n b a (λ e. ⊎_elim p q (late n (sym e))) h
