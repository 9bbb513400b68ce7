-- A file of the first version is read as before there were advances: its updates are assignments.
use mathlib.Core.Path.{◌≡◌, refl, sym, ap, ◌∙◌}
use mathlib.Core.Bool.{Bool, true, false, ◌||◌}
use mathlib.Core.List.{List, ◌∷◌}
use native.Mathlib.Omega.{arith}
use Prim.Native.Nat.{ℕ, ◌≤◌, ◌^◌}
use borrow.Author.Tests.{ltb-true}
use lib.Dec.{ltb}
use lib.IntN.{ℤ}
use lib.ListN.{set}
use Rattle.lists.specs.Lists.{concat}
use Rattle.reading.specs.Reading.{Read, got, fault, Reader, yield, next, ◌>>=◌, byte, such, many}
use Rattle.numbers.specs.Value.{number_of}
use Rattle.expr.specs.Expression.{Expr, expression, levels, value}
use Rattle.labels.specs.Guard.{guard}
use Rattle.updates.specs.Update.{Update, assignment, opens, of_form, update, targets, updated, assign}
use Rattle.labels.specs.Label.{limits, Body, body, Label, channel_fits, label}
use Rattle.reading.proofs.Places.{bind_got, bind_fault}
use Rattle.reading.proofs.Reading.{such_at, such_same, bind_same, many_same}
use Rattle.updates.proofs.Updates.{form_assignment, form_fault_lem}

-- the readers of assignments alone, of a body with them, and of a label with such a body
unfoldable pub assignment_in : ℕ → Reader Update
assignment_in variables = do
  v ← such byte (λ v. ltb v variables)
  e ← expression variables levels
  yield (assignment v e)

unfoldable pub body_in : ℕ → ℕ → Reader Body
body_in clocks variables = do
  g ← byte
  a ← byte
  gs ← many g (guard clocks variables)
  us ← many a (assignment_in variables)
  yield (record { guards = gs; updates = us })

unfoldable pub first_label : ℕ → ℕ → ℕ → Reader Label
first_label clocks variables channels = do
  s ← such byte (λ s. ltb s 3)
  c ← such byte (channel_fits channels s)
  r ← such byte (λ r. ltb r (2 ^ clocks))
  λ bytes. next (body_in clocks variables bytes) (λ b. yield (record { signal = s; channel = c; resets = r; body = b; bytes = bytes }))

-- an update of the first version: 255 is none of at most 255 variables
opens_first : (variables v : ℕ) → opens 1 variables v ≡ ltb v variables
unfolding opens
opens_first variables v = or_none (ltb v variables)
  where
    or_none : (b : Bool) → (b || false) ≡ b
    or_none true = refl
    or_none false = refl

pub first_update : (variables : ℕ) → variables ≤ 255 → (s : List ℕ) → update 1 variables s ≡ assignment_in variables s
unfolding update of_form assignment_in
first_update variables few s = by_first (such byte (λ v. ltb v variables) s) refl
  where
    first : such byte (opens 1 variables) s ≡ such byte (λ v. ltb v variables) s
    first = such_same byte _ _ (opens_first variables) s

    by_first : (r : Read ℕ) → such byte (λ v. ltb v variables) s ≡ r → update 1 variables s ≡ assignment_in variables s
    by_first (fault f) e = bind_fault _ _ s (form_fault_lem 1 variables s (first ∙ e)) ∙ sym (bind_fault _ _ s e)
    by_first (got v t) e =
        let below = ltb-true v variables (such_at byte _ s e).0 in
        bind_got _ _ s (form_assignment 1 variables s (first ∙ e) (λ p. absurd (omega (arith, below)))) ∙ sym (bind_got _ _ s e)

-- and so is the body of a label
pub first_body : (clocks variables : ℕ) → variables ≤ 255 → (s : List ℕ) → body (limits 1 clocks variables) s ≡ body_in clocks variables s
unfolding body body_in
first_body clocks variables few =
    bind_same byte byte _ _ (λ s. refl) λ g.
    bind_same byte byte _ _ (λ s. refl) λ a.
    bind_same (many g (guard clocks variables)) (many g (guard clocks variables)) _ _ (λ s. refl) λ gs.
    bind_same _ _ _ _ (many_same (update 1 variables) (assignment_in variables) (first_update variables few) a) λ us s. refl

-- and so is the label
pub first_label_lem : (clocks variables channels : ℕ) → variables ≤ 255 → (s : List ℕ)
    → label (limits 1 clocks variables) channels s ≡ first_label clocks variables channels s
unfolding label first_label
first_label_lem clocks variables channels few =
    bind_same _ _ _ _ (λ s. refl) λ g.
    bind_same _ _ _ _ (λ s. refl) λ c.
    bind_same _ _ _ _ (λ s. refl) λ r bytes.
    ap (λ (b : Read Body). next b (λ b. yield (record { signal = g; channel = c; resets = r; body = b; bytes = bytes }))) (first_body clocks variables few bytes)

-- an assignment writes its variable alone, and sets it to the value of its expression in the old variables
pub first_targets : (v : ℕ) (e : Expr) (us : List Update) → targets (assignment v e ∷ us) ≡ v ∷ targets us
unfolding concat
first_targets v e us = refl

pub first_assign : (old : List ℤ) (v : ℕ) (e : Expr) (us : List Update) (new : List ℤ) → assign old (assignment v e ∷ us) new ≡ assign old us (set new v (number_of (value old e)))
unfolding assign updated
first_assign old v e us new = refl
