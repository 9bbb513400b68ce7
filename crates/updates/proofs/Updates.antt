-- Laws of updates: how one is read, which variables it writes, and the variables after some.
use mathlib.Core.Path.{◌≡◌, refl, sym, ap, ap₂, ◌∙◌, subst}
use mathlib.Core.Logic.{◌≢◌, ⊎_elim}
use mathlib.Core.Bool.{Bool, true, false, cond, not, ◌&&◌, ◌||◌}
use mathlib.Core.List.Memᴰ.{cases_cons}
use mathlib.Core.List.Memᴰ.{not-nil}
use mathlib.Core.List.{List, [], ◌∷◌, ◌++◌, append_assoc, Memᴰ as Mem}
use Prim.Native.Nat.{ℕ, ◌≤◌, ◌<◌}
use lib.IntN.{ℤ}
use lib.Dec.{ltb, eqb}
use lib.ListN.{get_or, set, replicate, length-set, get_or-replicate}
use borrow.Author.Tests.{ltb-true, leb-true, ne_eqb}
use Rattle.lists.specs.Lists.{elem, distinct}
use Rattle.reading.specs.Reading.{Fault, got, fault, yield, byte, byte2, such}
use Rattle.reading.specs.Version.{has_advances}
use Rattle.updates.specs.Update.{Update, assignment, advance, opens, advanced, form, of_form, update, form_of, writes, targets, updated, assign}
use Rattle.updates.specs.Forms.{Noted}
use Rattle.updates.specs.declared.update.Advance.{Advance}
use Rattle.updates.specs.declared.update.Form.{Form}
use Rattle.updates.specs.declared.update.Form.TheVariants as Fm
use Rattle.lists.proofs.Concat.{concat_append, concat_single}
use Rattle.lists.proofs.Once.{distinct_more}
use Rattle.lists.proofs.Lists.{seen_more, in_two}
use Rattle.reading.proofs.Places.{bind_got, bind_fault}
use Rattle.reading.proofs.Reading.{bind_at, such_at, yield_at}
use Rattle.reading.proofs.InFront.{InFront, yield_front, bind_front, such_front, byte_front, byte2_front}
use Rattle.expr.specs.Expression.{Expr, expression, levels}
use Rattle.expr.proofs.Expressions.{expression_front}

-- what follows the first byte of a form
module _ (version variables : ℕ) (b : List ℕ) {v : ℕ} {t : List ℕ} (h : such byte (opens version variables) b ≡ got v t) where
  pub form_advance : v ≡ 255 → form version variables b ≡ advanced variables t
  unfolding form
  form_advance e = bind_got _ _ b h ∙ rw e

  pub form_assignment : v ≢ 255 → form version variables b ≡ got (Fm.Assignment v) t
  unfolding form yield
  form_assignment n = bind_got _ _ b h ∙ rw (ne_eqb v 255 n)

pub form_fault_lem : (version variables : ℕ) (b : List ℕ) {f : Fault} → such byte (opens version variables) b ≡ fault f → form version variables b ≡ fault f
unfolding form
form_fault_lem version variables b h = bind_fault _ _ b h

-- an update by its form: an advance is read, and an assignment is as its expression
module _ (version variables : ℕ) (b : List ℕ) where
  pub update_fault : {f : Fault} → form version variables b ≡ fault f → update version variables b ≡ fault f
  unfolding update
  update_fault h = bind_fault _ _ b h

  module _ {f : Form} {t : List ℕ} (h : form version variables b ≡ got f t) where
    pub update_advance : {a : Advance} → f ≡ Fm.Advance a → update version variables b ≡ got (advance a) t
    unfolding update of_form yield
    update_advance p = bind_got _ _ b h ∙ ap (λ (f : Form). of_form variables f t) p

    module _ {v : ℕ} (p : f ≡ Fm.Assignment v) where
      pub update_assignment : {e : Expr} {r : List ℕ} → expression variables levels t ≡ got e r → update version variables b ≡ got (assignment v e) r
      unfolding update of_form yield
      update_assignment k = bind_got _ _ b h ∙ ap (λ (f : Form). of_form variables f t) p ∙ bind_got _ _ t k

      pub assignment_fault : {g : Fault} → expression variables levels t ≡ fault g → update version variables b ≡ fault g
      unfolding update of_form
      assignment_fault k = bind_got _ _ b h ∙ ap (λ (f : Form). of_form variables f t) p ∙ bind_fault _ _ t k

-- updates are read in front, whatever follows them
module _ (version variables : ℕ) where
  advanced_front : InFront (advanced variables)
  unfolding advanced
  advanced_front =
      bind_front _ _ (such_front _ _ byte_front) λ s. bind_front _ _ (such_front _ _ byte_front) λ r.
      bind_front _ _ byte2_front λ p. bind_front _ _ (such_front _ _ byte2_front) λ q. yield_front _

  opened_front : (v : ℕ) (b : Bool) → InFront (cond b (advanced variables) (yield (Fm.Assignment v)))
  opened_front v true = advanced_front
  opened_front v false = yield_front _

  of_form_front : (f : Form) → InFront (of_form variables f)
  unfolding of_form
  of_form_front (Fm.Assignment v) = bind_front _ _ (expression_front _ _) λ e. yield_front _
  of_form_front (Fm.Advance a) = yield_front _

  pub update_front : InFront (update version variables)
  unfolding update form
  update_front = bind_front _ _ (bind_front _ _ (such_front _ _ byte_front) λ v. opened_front v (eqb v 255)) of_form_front

-- what a form that was read writes is declared, and the denominator of an advance is not 0
abbrev pub Declared : ℕ → Form → Type 0
Declared n (Fm.Assignment v) = v < n
Declared n (Fm.Advance a) = (a.steps < n) × (a.remainder < n) × (1 ≤ a.denominator)

advanced_known : (variables : ℕ) (s : List ℕ) {f : Form} {t : List ℕ} → advanced variables s ≡ got f t → Declared variables f
unfolding advanced
advanced_known variables s h =
    let a = bind_at _ _ s h in
    let b = bind_at _ _ a.1 a.3 in
    let p = bind_at _ _ b.1 b.3 in
    let q = bind_at _ _ p.1 p.3 in
    subst (Declared variables) (yield_at q.1 q.3) (
      ltb-true a.0 variables (such_at byte _ s a.2).0,
      ltb-true b.0 variables (such_at byte _ a.1 b.2).0,
      leb-true 1 q.0 (such_at byte2 _ p.1 q.2).0,
    )

pub form_known : (version variables : ℕ) (s : List ℕ) {f : Form} {t : List ℕ} → form version variables s ≡ got f t → Declared variables f
unfolding form opens
form_known version variables s {f} {t} h =
    let x = bind_at _ _ s h in
    go x.0 x.1 (eqb x.0 255) (such_at byte _ s x.2).0 x.3
  where
    first : (a b : Bool) → (a || (b && false)) ≡ true → a ≡ true
    first true b k = refl
    first false true k = k
    first false false k = k

    go : (v : ℕ) (r : List ℕ) (b : Bool) → (ltb v variables || (has_advances version && b)) ≡ true
        → cond b (advanced variables) (yield (Fm.Assignment v)) r ≡ got f t → Declared variables f
    go v r true k e = advanced_known variables r e
    go v r false k e = subst (Declared variables) (yield_at r e) (ltb-true v variables (first (ltb v variables) (has_advances version) k))

-- so an update that was read writes declared variables
of_form_known : (variables : ℕ) (f : Form) (r : List ℕ) {u : Update} {t : List ℕ} → Declared variables f → of_form variables f r ≡ got u t
    → (v : ℕ) → Mem v (writes (form_of u)) → v < variables
unfolding of_form
of_form_known variables (Fm.Assignment w) r d e v m =
    let y = bind_at _ _ r e in
    let k : Mem v (w ∷ []) = subst (λ (u : Update). Mem v (writes (form_of u))) (sym (yield_at y.1 y.3)) m in
    subst (λ (x : ℕ). x < variables) (sym (⊎_elim (λ e. e) (λ n. absurd (not-nil n)) (cases_cons k))) d
of_form_known variables (Fm.Advance a) r d e v m =
    let k : Mem v (a.steps ∷ a.remainder ∷ []) = subst (λ (u : Update). Mem v (writes (form_of u))) (sym (yield_at r e)) m in
    ⊎_elim (λ p. subst (λ (x : ℕ). x < variables) (sym p) d.0) (λ p. subst (λ (x : ℕ). x < variables) (sym p) d.1) (in_two k)

pub update_known : (version variables : ℕ) (s : List ℕ) {u : Update} {t : List ℕ} → update version variables s ≡ got u t
    → (v : ℕ) → Mem v (writes (form_of u)) → v < variables
unfolding update
update_known version variables s h =
    let x = bind_at _ _ s h in of_form_known variables x.0 x.1 (form_known version variables s x.2) x.3

-- one more update
pub targets_more : (us : List Update) (u : Update) → targets (us ++ (u ∷ [])) ≡ targets us ++ writes (form_of u)
targets_more us u = concat_append (λ u. writes (form_of u)) us (u ∷ []) ∙ ap (λ (vs : List ℕ). targets us ++ vs) (concat_single (λ u. writes (form_of u)) u)

pub assign_more : (old : List ℤ) (us : List Update) (u : Update) (new : List ℤ) → assign old (us ++ (u ∷ [])) new ≡ updated old u (assign old us new)
unfolding assign
assign_more old [] u new = refl
assign_more old (v ∷ vs) u new = assign_more old vs u _

-- the updates of one label after those of another
pub assign_append : (old : List ℤ) (us vs : List Update) (new : List ℤ) → assign old (us ++ vs) new ≡ assign old vs (assign old us new)
unfolding assign
assign_append old [] vs new = refl
assign_append old (u ∷ us) vs new = assign_append old us vs _

-- the variables noted: none, one more, and those of one more update
pub noted_none : Noted [] (replicate 256 false) true
unfolding distinct elem
noted_none = record { long = refl; each = λ v l. get_or-replicate 256 v false false l; first = refl }

pub noted_more : (vs : List ℕ) (v : ℕ) (seen : List Bool) {once again r : Bool} → Noted vs seen once → v < 256 → again ≡ get_or seen v false → r ≡ (once && not again)
    → Noted (vs ++ (v ∷ [])) (set seen v true) r
noted_more vs v seen n l a h = record {
  long = length-set seen v true ∙ n.long;
  each = seen_more seen vs v 256 n.long l n.each;
  first = h ∙ ap₂ (λ (x y : Bool). x && not y) n.first (a ∙ n.each v l) ∙ sym (distinct_more vs v);
}

pub noted_two : (vs : List ℕ) (v w : ℕ) {seen : List Bool} {once : Bool} → Noted ((vs ++ (v ∷ [])) ++ (w ∷ [])) seen once → Noted (vs ++ (v ∷ w ∷ [])) seen once
noted_two vs v w {seen} {once} n = subst (λ (ws : List ℕ). Noted ws seen once) (append_assoc vs (v ∷ []) (w ∷ [])) n

pub noted_update : (us : List Update) (u : Update) {f : Form} {seen : List Bool} {once : Bool} → form_of u ≡ f → Noted (targets us ++ writes f) seen once
    → Noted (targets (us ++ (u ∷ []))) seen once
noted_update us u {f} {seen} {once} e n =
    subst (λ (vs : List ℕ). Noted vs seen once) (ap (λ (f : Form). targets us ++ writes f) (sym e) ∙ sym (targets_more us u)) n
