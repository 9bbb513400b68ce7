-- What the functions of the pass answer, as facts of the breaks.
use mathlib.Core.Path.{◌≡◌, sym, ap, ◌∙◌, subst}
use mathlib.Core.Bool.{Bool, true, false}
use mathlib.Core.List.{List}
use Prim.Native.Nat.{ℕ, ◌+◌, ◌-◌, ◌≤◌}
use native.Mathlib.Omega.{arith}
use native.Mathlib.Decide.{ℕ_discrete}
use borrow.Author.Tests.{eq-eqb, ne_eqb}
use lib.ListN.{length}
use Rattle.std.specs.Prelude.{Option, Some, None, Result, ok_or}
use Rattle.lists.proofs.Bools.{cond_yes, cond_no}
use Rattle.reading.specs.Verdict.{answer_of}
use Rattle.reading.specs.declared.refusal.Refusal.{Refusal}
use Rattle.reading.specs.declared.refusal.Refusal.TheVariants as Rf
use Rattle.break_windows.specs.Breaks.{climbs, counted, busiest_of}
use Rattle.break_windows.specs.Found.{at, Climbs, Sought, Reaches}
use Rattle.break_windows.specs.declared.window.Best.{Best}
use Rattle.break_windows.proofs.Passing.{bounded_none, found_one, sought_found, sought_reached, found_all, falling}
use Rattle.breaks.specs.Passes.{PassedTo, PassedAll, OrderedTo, first_best}

-- what a pass begins with
pub first_some : (t m : ℕ) (b : Best) → b ≡ first_best t m → 1 ≤ m → (1 ≤ b.count) × (b.count ≤ m)
first_some t m b e h = elim (ℕ_discrete m 1) [
  | yes q ↦ let z : b.count ≡ 1 = ap (λ (x : Best). x.count) (e ∙ cond_yes _ _ (eq-eqb m 1 q)) in (omega arith, omega arith)
  | no d ↦ let z : b.count ≡ m - 1 = ap (λ (x : Best). x.count) (e ∙ cond_no _ _ (ne_eqb m 1 d)) in (omega arith, omega arith)
]

pub first_sought :
    (w : ℕ) (ts : List ℕ) (m : ℕ) (b : Best) → b ≡ first_best (at ts 0) m → 1 ≤ w → 1 ≤ m → Climbs ts b.count → Sought w ts b.count (m - 1) b.count b.first
first_sought w ts m b e h o c = elim (ℕ_discrete m 1) [
  | yes q ↦ let z : b ≡ counted 1 (at ts 0) = e ∙ cond_yes _ _ (eq-eqb m 1 q) in
      subst (λ (x : Best). Sought w ts x.count (m - 1) x.count x.first) (sym z) (sought_found (m - 1) (omega arith) (found_one w ts h))
  | no d ↦ let z : b ≡ counted (m - 1) 0 = e ∙ cond_no _ _ (ne_eqb m 1 d) in
      subst (λ (x : Best). Sought w ts x.count (m - 1) x.count x.first) (sym z)
      (record { bounded = bounded_none w ts (m - 1) (subst (λ (x : Best). Climbs ts x.count) z c); some = omega arith; least = omega arith; found = λ l. absurd (omega arith) })
]

-- a pass over all ticks, where some window has m breaks and windows of fewer are passed over
pub passed_all : (w : ℕ) (ts : List ℕ) (m : ℕ) (r : Option Best) → Reaches w ts m → PassedTo w ts (length ts) (m - 1) r → PassedAll w ts r
passed_all w ts m (Some b) R P = sought_reached (m - 1) (subst (Reaches w ts) (let z : m ≡ m - 1 + 1 = omega (arith, R.0) in z) R) P
passed_all w ts m None R P = P

-- .. and what the operation answers then
pub answered : (w : ℕ) (ts : List ℕ) (r : Option Best) {q : Result Best Refusal} → 1 ≤ w → PassedAll w ts r → q ≡ ok_or r Rf.Window → answer_of q ≡ busiest_of w ts
answered w ts (Some b) h P e = rw e (sym (found_all w ts b.count b.first P h))
answered w ts None h P e = rw e (sym (falling w ts P))

-- what a test of the order answers
pub ordered_yes : (ts : List ℕ) (n : ℕ) (b : Bool) → OrderedTo ts n b → b ≡ true → Climbs ts n
ordered_yes ts n b O e = subst (OrderedTo ts n) e O

pub ordered_no : (ts : List ℕ) (n : ℕ) (b : Bool) → OrderedTo ts n b → b ≡ false → climbs ts ≡ false
ordered_no ts n b O e = subst (OrderedTo ts n) e O
