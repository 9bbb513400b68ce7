-- Laws of the take-up: what the two variables of an advance hold after the updates of labels.
use mathlib.Core.Path.{◌≡◌, refl, sym, ◌∙◌}
use mathlib.Core.Bool.{Bool, true, false, cond, not, ◌||◌}
use mathlib.Core.Logic.{◌≢◌}
use mathlib.Core.List.Memᴰ.{cast}
use mathlib.Core.List.Memᴰ.{head as here}
use mathlib.Core.List.{List, Memᴰ as Mem}
use Prim.Native.Nat.{ℕ, ◌+◌, ◌^◌, ◌≤◌}
use native.Mathlib.Numerals.{add-one}
use native.Mathlib.Nat.{add-zero}
use borrow.Author.Tests.{ltb-true}
use lib.Dec.{eqb}
use lib.IntN.{ℤ}
use lib.ListN.{length}
use Rattle.lists.specs.Lists.{all, any, concat}
use Rattle.lists.proofs.Bools.{and_r, same}
use Rattle.lists.proofs.Lists.{all_at, any_at, any_by}
use Rattle.lists.proofs.Concat.{concat_at, concat_by}
use Rattle.lists.proofs.Once.{distinct_at}
use Rattle.updates.specs.Update.{Update, advance, targets, stays, assign}
use Rattle.updates.specs.TakeUp.{is_advance, TakenUp}
use Rattle.updates.specs.declared.update.Advance.{Advance}
use Rattle.updates.proofs.Advances.{InRange, Apart, OnlyIn, is_advance_writes, advance_stays, taken_up_more, assign_advances, assign_leaves, once_each}
use Rattle.labels.specs.Label.{Label, assigns_once, body_once}
use Rattle.labels.specs.TakeUp.{OnlyBy, makes}

-- the updates of some labels
abbrev pub updates_of : List Label → List Update
updates_of ls = concat (λ l. l.body.updates) ls

only_in : (a : Advance) (ls : List Label) → OnlyBy a ls → OnlyIn a (updates_of ls)
only_in a ls o u m h = let r = concat_at (λ (l : Label). l.body.updates) ls m in o r.0 r.1 u r.2 h

-- a label that makes the advance has it among its updates
pub made_by_lem : (a : Advance) (l : Label) (ls : List Label) → OnlyBy a ls → Mem l ls → makes a l ≡ true → Mem (advance a) l.body.updates
unfolding makes
made_by_lem a l ls o m h =
    let r = any_at (is_advance a) l.body.updates h in
    cast (sym (o l m r.0 r.1 (is_advance_writes a r.0 r.2))) r.1

-- the advance is among the updates, if some of the labels makes it
made_of : (a : Advance) (ls : List Label) → any (is_advance a) (updates_of ls) ≡ any (makes a) ls
unfolding makes
made_of a ls = same _ _ from to
  where
    from : any (is_advance a) (updates_of ls) ≡ true → any (λ (l : Label). any (is_advance a) l.body.updates) ls ≡ true
    from h =
        let u = any_at (is_advance a) (updates_of ls) h in
        let r = concat_at (λ (l : Label). l.body.updates) ls u.1 in
        any_by (λ (l : Label). any (is_advance a) l.body.updates) r.1 (any_by (is_advance a) r.2 u.2)

    to : any (λ (l : Label). any (is_advance a) l.body.updates) ls ≡ true → any (is_advance a) (updates_of ls) ≡ true
    to h =
        let r = any_at (λ (l : Label). any (is_advance a) l.body.updates) ls h in
        let u = any_at (is_advance a) r.0.body.updates r.2 in
        any_by (is_advance a) (concat_by (λ (l : Label). l.body.updates) r.1 u.1) u.2

-- labels take up one advance if some of them makes it, and else none
pub labels_take_up : (a : Advance) (ls : List Label) (k : ℕ) (vars : List ℤ) → 1 ≤ a.denominator → OnlyBy a ls
    → (any (makes a) ls ≡ true → Apart a (length vars))
    → TakenUp a k vars → TakenUp a (k + cond (any (makes a) ls) 1 0) (assign vars (updates_of ls) vars)
labels_take_up a ls k vars d o p t = go (any (makes a) ls) refl
  where
    go : (b : Bool) → any (makes a) ls ≡ b → TakenUp a (k + cond b 1 0) (assign vars (updates_of ls) vars)
    go true e =
        let v = assign_advances a vars (updates_of ls) vars (only_in a ls o) (p e) (made_of a ls ∙ e) in
        rw (add-one k) (taken_up_more a k vars _ t d v)
    go false e =
        let s = assign_leaves a vars (updates_of ls) vars (only_in a ls o) (made_of a ls ∙ e) in
        rw (add-zero k) (record { whole = λ h. s.steps_same ∙ t.whole h; rest = s.remainder_same ∙ t.rest })

-- if the updates of labels stay in the range, so does the whole part of the advances made with theirs
pub labels_in_range : (a : Advance) (ls : List Label) (k : ℕ) (vars : List ℤ) → 1 ≤ a.denominator → OnlyBy a ls
    → all (stays vars) (updates_of ls) ≡ true → TakenUp a k vars → InRange a k → InRange a (k + cond (any (makes a) ls) 1 0)
labels_in_range a ls k vars d o s t h = go (any (makes a) ls) refl
  where
    go : (b : Bool) → any (makes a) ls ≡ b → InRange a (k + cond b 1 0)
    go true e =
        let r = any_at (makes a) ls e in
        let u = concat_by (λ (l : Label). l.body.updates) r.1 (made_by_lem a r.0 ls o r.1 r.2) in
        rw (add-one k) (ltb-true _ (2 ^ 31) (sym (advance_stays a k vars d t h) ∙ all_at (stays vars) (updates_of ls) s u))
    go false e = rw (add-zero k) h

-- where rule 13 is kept, an advance has two variables
pub two_variables : (a : Advance) (l : Label) → assigns_once l ≡ true → Mem (advance a) l.body.updates → a.steps ≢ a.remainder
unfolding assigns_once body_once
two_variables a l h m e =
    let us = l.body.updates in
    let once = distinct_at (targets us) (and_r (not (eqb l.signal 2) || eqb (length us) 0) _ h) in
    (once_each us m once).0 (here e)
