-- What the operations' answers say of the number that is answered and of what is lent.
use mathlib.Core.Path.{◌≡◌, refl, sym, ap, ◌∙◌}
use Prim.Native.Nat.{ℕ}
use mathlib.Core.List.{List}
use Rattle.std.specs.Prelude.{Result, Ok, Err}
use Rattle.reading.specs.Answer.{Answer, done, refused}
use Rattle.reading.specs.Verdict.{number, answer_of, verdict_of, verdict_number}
use Rattle.reading.specs.declared.refusal.Refusal.{Refusal}
use Rattle.reading.proofs.Verdicts.{done_not, was_done, was_refused}
use Rattle.reading.proofs.Answer.{done_injective, refused_injective}
use Rattle.flattener.specs.Outcomes.{length_of}
use Rattle.library.specs.Numbers.{number_of, after, length_after}

-- of what a call answers: the number, and what is lent
module _ {A : Type 0} (given : A) (a : Answer A) (r : Result A Refusal) (h : answer_of r ≡ a) where
  pub lent_passed : {x : A} → r ≡ Ok x → (0 ≡ number_of a) × (x ≡ after given a)
  unfolding number_of after
  lent_passed e = let w = was_done a r h e in (sym (ap number_of w), sym (ap (after given) w))

  pub lent_refused : {k : Refusal} → r ≡ Err k → {m : ℕ} → m ≡ number k → (m ≡ number_of a) × (given ≡ after given a)
  unfolding number_of after
  lent_refused e q = let w = was_refused a r h e in (q ∙ sym (ap number_of w), sym (ap (after given) w))

-- the check's number
pub checked_number : {A : Type 0} (a : Answer A) → verdict_number (verdict_of a) ≡ number_of a
unfolding number_of
checked_number (done x) = refl
checked_number (refused k) = refl

-- flattening: the number and the length
pub flatten_passed : (given : ℕ) (a : Answer (List ℕ)) {n : ℕ} → done n ≡ length_of a → (0 ≡ number_of a) × (n ≡ length_after given a)
unfolding number_of length_after
flatten_passed given (done s) e = (refl, done_injective e)
flatten_passed given (refused k) e = done_not e

pub flatten_refused : (given : ℕ) (a : Answer (List ℕ)) {k : ℕ} → refused k ≡ length_of a → (k ≡ number_of a) × (given ≡ length_after given a)
unfolding number_of length_after
flatten_refused given (done s) e = done_not (sym e)
flatten_refused given (refused k) e = (refused_injective e, refl)
