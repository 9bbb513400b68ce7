-- Lines without a call: nothing, an unknown word, a wrong number; and the call that moves no machine.
use mathlib.Core.Path.{◌≡◌, refl}
use mathlib.Core.Bool.{true, false}
use mathlib.Core.Logic.{⊎_elim}
use mathlib.Core.List.{[], ◌∷◌}
use Prim.Native.Nat.{ℕ, ◌≤◌}
use native.Mathlib.Omega.{arith}
use types.Run.{OneOf}
use denote.Enum.Declared.{tag_of}
use Rattle.lists.proofs.Bools.{clash}
use Rattle.console.specs.contracts.script.Call.{the_type}
use Rattle.console.specs.Script.{is_call, moves}
use Rattle.console.specs.declared.script.Call.{Call}
use Rattle.console.specs.declared.script.Call.TheVariants as Cl

apart : (x : ℕ) → OneOf (0 ∷ 4 ∷ 5 ∷ 6 ∷ []) x → 1 ≤ x → 4 ≤ x
apart x h l = ⊎_elim (λ e. omega arith) (⊎_elim (λ e. omega arith) (⊎_elim (λ e. omega arith) (λ e. omega arith))) h

-- what is the same of the three, by their tags
module _ {A : Type 0} (f : Call → A) (a : A) (nothing : a ≡ f Cl.Nothing) (unknown : a ≡ f Cl.Unknown) (number : a ≡ f Cl.Number) where
  pub no_call : (k : Call) → OneOf (0 ∷ 5 ∷ 6 ∷ []) (tag_of the_type k) → a ≡ f k
  no_call Cl.Nothing h = nothing
  no_call Cl.Start h = absurd (⊎_elim (λ e. omega (arith, e)) (λ g. ⊎_elim (λ e. omega (arith, e)) (λ e. omega (arith, e)) g) h)
  no_call Cl.Step h = absurd (⊎_elim (λ e. omega (arith, e)) (λ g. ⊎_elim (λ e. omega (arith, e)) (λ e. omega (arith, e)) g) h)
  no_call (Cl.Wait d) h = absurd (⊎_elim (λ e. omega (arith, e)) (λ g. ⊎_elim (λ e. omega (arith, e)) (λ e. omega (arith, e)) g) h)
  no_call Cl.Longest h = absurd (⊎_elim (λ e. omega (arith, e)) (λ g. ⊎_elim (λ e. omega (arith, e)) (λ e. omega (arith, e)) g) h)
  no_call Cl.Unknown h = unknown
  no_call Cl.Number h = number

  -- .. and of the longest wait
  pub no_move : a ≡ f Cl.Longest → (k : Call) → OneOf (0 ∷ 4 ∷ 5 ∷ 6 ∷ []) (tag_of the_type k) → a ≡ f k
  no_move longest Cl.Nothing h = nothing
  no_move longest Cl.Start h = absurd (omega (arith, apart 1 h (omega arith)))
  no_move longest Cl.Step h = absurd (omega (arith, apart 2 h (omega arith)))
  no_move longest (Cl.Wait d) h = absurd (omega (arith, apart 3 h (omega arith)))
  no_move longest Cl.Longest h = longest
  no_move longest Cl.Unknown h = unknown
  no_move longest Cl.Number h = number

-- no call moves no machine, and of the calls all but the longest wait move one
pub unmoved : (k : Call) → is_call k ≡ false → moves k ≡ false
unmoved Cl.Nothing h = refl
unmoved Cl.Start h = clash refl h
unmoved Cl.Step h = clash refl h
unmoved (Cl.Wait d) h = clash refl h
unmoved Cl.Longest h = refl
unmoved Cl.Unknown h = refl
unmoved Cl.Number h = refl

beside : (x : ℕ) → OneOf (0 ∷ 1 ∷ 2 ∷ 3 ∷ 5 ∷ 6 ∷ []) x → 4 ≤ x → 5 ≤ x
beside x h l =
    ⊎_elim (λ e. omega arith)
    (⊎_elim (λ e. omega arith) (⊎_elim (λ e. omega arith) (⊎_elim (λ e. omega arith) (⊎_elim (λ e. omega arith) (λ e. omega arith)))))
    h

pub moved : (k : Call) → is_call k ≡ true → OneOf (0 ∷ 1 ∷ 2 ∷ 3 ∷ 5 ∷ 6 ∷ []) (tag_of the_type k) → moves k ≡ true
moved Cl.Nothing h t = h
moved Cl.Start h t = refl
moved Cl.Step h t = refl
moved (Cl.Wait d) h t = refl
moved Cl.Longest h t = absurd (omega (arith, beside 4 t (omega arith)))
moved Cl.Unknown h t = h
moved Cl.Number h t = h
