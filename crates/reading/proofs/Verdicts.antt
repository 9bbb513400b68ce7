-- What a verdict says of the answer, for any operation.
use mathlib.Core.Path.{◌≡◌, refl, sym, ap, ◌∙◌}
use Prim.Native.Nat.{ℕ}
use native.Mathlib.Omega.{arith}
use Rattle.std.specs.Prelude.{get_or, Some, None, Result, Ok, Err}
use Rattle.reading.specs.Answer.{Answer, done, refused}
use Rattle.reading.specs.Verdict.{number, refusals, answer_of, verdict_of}
use Rattle.reading.specs.declared.refusal.Refusal.{Refusal}
use Rattle.reading.specs.declared.refusal.Refusal.TheVariants as Rf

-- the number of a refusal leads back to it
pub refusal_again : (r : Refusal) → get_or refusals (number r) None ≡ Some r
refusal_again Rf.ChartHeader = refl
refusal_again Rf.ChartCount = refl
refusal_again Rf.ChartLength = refl
refusal_again Rf.ChartField = refl
refusal_again Rf.Parent = refl
refusal_again Rf.ManySequential = refl
refusal_again Rf.NoSequential = refl
refusal_again Rf.EntryMarks = refl
refusal_again Rf.ExitMarks = refl
refusal_again Rf.Siblings = refl
refusal_again Rf.Exit = refl
refusal_again Rf.Entry = refl
refusal_again Rf.Updates = refl
refusal_again Rf.Channel = refl
refusal_again Rf.ManyEdges = refl
refusal_again Rf.ShortBuffer = refl
refusal_again Rf.ChartConfiguration = refl
refusal_again Rf.List = refl
refusal_again Rf.Inactive = refl
refusal_again Rf.NotAllowed = refl
refusal_again Rf.Bound = refl
refusal_again Rf.Ticks = refl
refusal_again Rf.NetworkHeader = refl
refusal_again Rf.NetworkField = refl
refusal_again Rf.NetworkConfiguration = refl
refusal_again Rf.Urgent = refl
refusal_again Rf.OutOfRange = refl
refusal_again Rf.Window = refl

-- what is done is not refused
pub done_not : {A X : Type 0} {a : A} {k : ℕ} → done a ≡ refused k → X
done_not e = absurd (let z : ◌≡◌ {A = ℕ} 0 1 = cc in omega arith)

pub verdict_done_at : {A : Type 0} (a : Answer A) → verdict_of a ≡ done tt → (x : A) × (a ≡ done x)
verdict_done_at (done x) h = (x, refl)
verdict_done_at (refused n) h = done_not (sym h)

pub verdict_refused_at : {A : Type 0} (a : Answer A) {k : ℕ} → verdict_of a ≡ refused k → a ≡ refused k
verdict_refused_at (done x) h = done_not h
verdict_refused_at (refused n) h = cc

-- of a result that stands for an answer
module _ {A : Type 0} (a : Answer A) (r : Result A Refusal) (h : answer_of r ≡ a) where
  pub was_refused : {k : Refusal} → r ≡ Err k → a ≡ refused (number k)
  was_refused e = sym h ∙ ap answer_of e

  pub was_done : {x : A} → r ≡ Ok x → a ≡ done x
  was_done e = sym h ∙ ap answer_of e
