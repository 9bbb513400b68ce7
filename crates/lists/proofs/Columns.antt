-- Lists as columns of a table: filled from the front, and known by their elements.
use mathlib.Core.Path.{◌≡◌, sym, ap, ◌∙◌}
use mathlib.Core.Bool.{Bool, true, false, not, ◌&&◌}
use mathlib.Core.List.{List, [], ◌∷◌, ◌++◌, map, map-append}
use Prim.Native.Nat.{ℕ, suc, ◌+◌, ◌-◌, ◌≤◌, ◌<◌}
use native.Mathlib.Omega.{arith}
use native.Mathlib.Decide.{dec_lt}
use borrow.Author.Tests.{le-ltb, not-true}
use lib.Dec.{ltb}
use lib.ListN.{length, get_or, take, drop, set, length-append, length-drop, length-map, get_or-eq_default}
use lib.Seq.{ext_get_or, get_or-drop, take-suc-set}
use Rattle.lists.specs.Lists.{all, below}
use Rattle.lists.proofs.Bools.{not_yes}
use Rattle.lists.proofs.Lists.{all_at, all_by, get_d_mem, mem_get_d}
use Rattle.lists.proofs.Below.{length_below, get_d_mapped}

-- a list of w tests, by its elements
pub made_by_lem : (w : ℕ) (f : ℕ → Bool) (l : List Bool) → length l ≡ w → ((s : ℕ) → s < w → get_or l s false ≡ f s) → l ≡ map f (below w)
made_by_lem w f l e g =
    ext_get_or false l (map f (below w)) (e ∙ sym (length-map (below w) f ∙ length_below w)) (λ s h. g s (omega arith) ∙ sym (get_d_mapped f w s false (omega arith)))

-- a test of the first n of w numbers, read back from its list
pub made : (w : ℕ) (f : ℕ → Bool) (n : ℕ) → n ≤ w → (s : ℕ) → get_or (map (λ s. ltb s n && f s) (below w)) s false ≡ (ltb s n && f s)
made w f n h s = elim (dec_lt s w) [
  | yes l ↦ get_d_mapped (λ s. ltb s n && f s) w s false l
  | no l ↦ get_or-eq_default (map (λ s. ltb s n && f s) (below w)) false {n = s} (omega (arith, length-map (below w) (λ s. ltb s n && f s), length_below w))
      ∙ sym (ap (λ (b : Bool). b && f s) (le-ltb s n (omega arith)))
]

-- no test from n on holds
pub past_at : (l : List Bool) (n i : ℕ) → all not (drop n l) ≡ true → n ≤ i → get_or l i false ≡ false
past_at l n i h k = elim (dec_lt i (length l)) [
  | yes b ↦ ap (λ (j : ℕ). get_or l j false) (let e : i ≡ n + (i - n) = omega arith in e) ∙ sym (get_or-drop n l (i - n) false)
      ∙ not-true _ (all_at not (drop n l) h (get_d_mem (drop n l) (i - n) false (omega (arith, length-drop n l))))
  | no b ↦ get_or-eq_default l false (omega arith)
]

pub past_by : (l : List Bool) (n : ℕ) → ((i : ℕ) → n ≤ i → get_or l i false ≡ false) → all not (drop n l) ≡ true
past_by l n f = all_by not (drop n l) (λ x m. let r = mem_get_d false m in not_yes (sym r.2 ∙ get_or-drop n l r.0 false ∙ f (n + r.0) (omega arith)))

-- a column that holds a field of each element, with one more
pub field_more : {A : Type 0} (f : A → ℕ) (ts : List A) (t : A) (l : List ℕ) (v i : ℕ) → map f ts ≡ take (length ts) l → i ≡ length ts → i < length l → v ≡ f t
    → map f (ts ++ (t ∷ [])) ≡ take (length (ts ++ (t ∷ []))) (set l i v)
field_more f ts t l v i e q h k =
    map-append f ts (t ∷ []) ∙ ap (λ (x : List ℕ). x ++ (f t ∷ [])) (e ∙ ap (λ (n : ℕ). take n l) (sym q)) ∙ ap (λ (x : ℕ). take i l ++ (x ∷ [])) (sym k)
    ∙ sym (take-suc-set l i v h) ∙ ap (λ (n : ℕ). take n (set l i v)) (let z : suc i ≡ length (ts ++ (t ∷ [])) = omega (arith, length-append ts (t ∷ [])) in z)
