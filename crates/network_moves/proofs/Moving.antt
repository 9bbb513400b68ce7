-- The locations and the flags after some edges, at the number of one automaton: what an edge of it targets and writes, and else
-- what was there.
use mathlib.Core.Path.{◌≡◌, refl, sym, ap, ◌∙◌}
use mathlib.Core.Logic.{⊎_elim, ◌≢◌}
use mathlib.Core.List.Memᴰ.{cases_cons}
use mathlib.Core.List.Memᴰ.{head as here}
use mathlib.Core.List.Memᴰ.{tail as there}
use mathlib.Core.List.{List, [], ◌∷◌, Memᴰ as Mem}
use Prim.Native.Nat.{ℕ, ◌<◌}
use native.Mathlib.Omega.{arith}
use native.Mathlib.Decide.{ℕ_discrete}
use lib.ListN.{length, get_or, set, length-set}
use lib.Seq.{get_or-set_same, get_or-set_other}
use Rattle.network_records.specs.Network.{Edge, Network, owner_of}
use Rattle.network_moves.specs.Machine.{overwrite, move, write}

module _ (n : Network) (a : ℕ) where
  pub move_length : (es : List Edge) (ls : List ℕ) → length (move n es ls) ≡ length ls
  unfolding move
  move_length [] ls = refl
  move_length (e ∷ es) ls = move_length es _ ∙ length-set ls (owner_of n e) e.target

  pub write_length : (es : List Edge) (fs : List ℕ) → length (write n es fs) ≡ length fs
  unfolding write
  write_length [] fs = refl
  write_length (e ∷ es) fs = write_length es _ ∙ length-set fs (owner_of n e) _

  pub move_other : (es : List Edge) (ls : List ℕ) → ((e : Edge) → Mem e es → owner_of n e ≢ a) → get_or (move n es ls) a 0 ≡ get_or ls a 0
  unfolding move
  move_other [] ls h = refl
  move_other (e ∷ es) ls h = move_other es _ (λ x m. h x (there m)) ∙ get_or-set_other ls (owner_of n e) a e.target 0 (λ q. h e (here refl) (sym q))

  pub write_other : (es : List Edge) (fs : List ℕ) → ((e : Edge) → Mem e es → owner_of n e ≢ a) → get_or (write n es fs) a 0 ≡ get_or fs a 0
  unfolding write
  write_other [] fs h = refl
  write_other (e ∷ es) fs h = write_other es _ (λ x m. h x (there m)) ∙ get_or-set_other fs (owner_of n e) a _ 0 (λ q. h e (here refl) (sym q))

  module _ (t : ℕ) where
    move_kept : (es : List Edge) (ls : List ℕ) → a < length ls → ((e : Edge) → Mem e es → owner_of n e ≡ a → e.target ≡ t) → get_or ls a 0 ≡ t → get_or (move n es ls) a 0 ≡ t
    unfolding move
    move_kept [] ls l h k = k
    move_kept (e ∷ es) ls l h k = move_kept es _ (omega (arith, length-set ls (owner_of n e) e.target)) (λ x m. h x (there m)) (elim (ℕ_discrete a (owner_of n e)) [
      | yes q ↦ ap (λ (i : ℕ). get_or (set ls (owner_of n e) e.target) i 0) q ∙ get_or-set_same ls (owner_of n e) e.target 0 (omega arith) ∙ h e (here refl) (sym q)
      | no d ↦ get_or-set_other ls (owner_of n e) a e.target 0 d ∙ k
    ])

    pub move_to : {e : Edge} (es : List Edge) (ls : List ℕ) → a < length ls → ((e : Edge) → Mem e es → owner_of n e ≡ a → e.target ≡ t) → Mem e es → owner_of n e ≡ a → get_or (move n es ls) a 0 ≡ t
    unfolding move
    move_to (e ∷ es) ls l h (here p) o = move_kept es _ (omega (arith, length-set ls (owner_of n e) e.target)) (λ x m. h x (there m))
        (let q = ap (owner_of n) (sym p) ∙ o in ap (λ (i : ℕ). get_or (set ls (owner_of n e) e.target) i 0) (sym q) ∙ get_or-set_same ls (owner_of n e) e.target 0 (omega arith) ∙ h e (here refl) q)
    move_to (e ∷ es) ls l h (there m) o = move_to es _ (omega (arith, length-set ls (owner_of n e) e.target)) (λ x k. h x (there k)) m o
    move_to [] ls l h m o = elim m [ ]

  -- flags x become y, and stay so
  module _ (x y : ℕ) where
    abbrev pub Writes : List Edge → Type 0
    Writes es = (e : Edge) → Mem e es → owner_of n e ≡ a → (overwrite x e.written e.values ≡ y) × (overwrite y e.written e.values ≡ y)

    write_kept : (es : List Edge) (fs : List ℕ) → a < length fs → Writes es → get_or fs a 0 ≡ y → get_or (write n es fs) a 0 ≡ y
    unfolding write
    write_kept [] fs l h k = k
    write_kept (e ∷ es) fs l h k = write_kept es _ (omega (arith, length-set fs (owner_of n e) (overwrite (get_or fs (owner_of n e) 0) e.written e.values))) (λ z m. h z (there m)) (elim (ℕ_discrete a (owner_of n e)) [
      | yes q ↦ ap (λ (i : ℕ). get_or (set fs (owner_of n e) (overwrite (get_or fs (owner_of n e) 0) e.written e.values)) i 0) q ∙ get_or-set_same fs (owner_of n e) _ 0 (omega arith)
          ∙ ap (λ (z : ℕ). overwrite z e.written e.values) (ap (λ (i : ℕ). get_or fs i 0) (sym q) ∙ k) ∙ (h e (here refl) (sym q)).1
      | no d ↦ get_or-set_other fs (owner_of n e) a _ 0 d ∙ k
    ])

    pub write_to : {e : Edge} (es : List Edge) (fs : List ℕ) → a < length fs → Writes es → get_or fs a 0 ≡ x → Mem e es → owner_of n e ≡ a → get_or (write n es fs) a 0 ≡ y
    unfolding write
    write_to {e = b} (e ∷ es) fs l h k m o = let long = length-set fs (owner_of n e) (overwrite (get_or fs (owner_of n e) 0) e.written e.values) in elim (ℕ_discrete a (owner_of n e)) [
      | yes q ↦ write_kept es _ (omega arith) (λ z j. h z (there j)) (ap (λ (i : ℕ). get_or (set fs (owner_of n e) (overwrite (get_or fs (owner_of n e) 0) e.written e.values)) i 0) q ∙ get_or-set_same fs (owner_of n e) _ 0 (omega arith)
          ∙ ap (λ (z : ℕ). overwrite z e.written e.values) (ap (λ (i : ℕ). get_or fs i 0) (sym q) ∙ k) ∙ (h e (here refl) (sym q)).0)
      | no d ↦ ⊎_elim (λ p. absurd (d (sym (ap (owner_of n) (sym p) ∙ o)))) (λ j. write_to es _ (omega arith) (λ z i. h z (there i)) (get_or-set_other fs (owner_of n e) a _ 0 d ∙ k) j o) (cases_cons m)
    ]
    write_to [] fs l h k m o = elim m [ ]
