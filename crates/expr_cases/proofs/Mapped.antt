-- An array made by a closure that answers a function of each element.
use mathlib.Core.Path.{◌≡◌, sym, ◌∙◌, subst}
use mathlib.Core.List.{List, map}
use Prim.Native.Nat.{ℕ, ◌<◌}
use denote.Param.Members.{Mut, Called}
use lib.ListN.{length}
use Rattle.std.specs.Array.{IsMapOf}
use Rattle.std.proofs.lemmas.List.{ext_get_or, get_or-map, length-map}

pub mapped_by : {F : Type 0} {g : Mut F (ℕ × Unit {0}) ℕ} {f : F} (h : ℕ → ℕ) (xs ys : List ℕ) {n : ℕ}
    → ((p q : F) (x y : ℕ) → Called g p (x, tt) y q → y ≡ h x) → length xs ≡ n → IsMapOf g f xs ys n → ys ≡ map h xs
mapped_by h xs ys calls size R = ext_get_or 0 ys (map h xs) (R.long ∙ sym (length-map xs h ∙ size)) (λ i l.
    calls _ _ _ _ (R.at i 0 0 (subst (λ (n : ℕ). i < n) R.long l)).2 ∙ sym (get_or-map h xs i 0 0 (subst (λ (n : ℕ). i < n) (R.long ∙ sym size) l)))
