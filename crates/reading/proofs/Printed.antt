-- Readers on what was printed: they give the value back, and leave what stands behind it.
use mathlib.Core.Path.{◌≡◌, refl, ap, ◌∙◌}
use mathlib.Core.Bool.{Bool, true}
use mathlib.Core.List.Memᴰ.{head as here}
use mathlib.Core.List.Memᴰ.{tail as there}
use mathlib.Core.List.{List, [], ◌∷◌, ◌++◌, append_assoc, Memᴰ as Mem}
use Prim.Native.Nat.{ℕ, suc, ◌+◌, ◌*◌}
use native.Mathlib.Omega.{arith}
use borrow.Author.Tests.{le-leb}
use lib.ListN.{length, length-append}
use lib.Seq.{take-append_seam, drop-append_seam}
use Rattle.lists.specs.Lists.{concat}
use Rattle.reading.specs.Reading.{got, Reader, yield, next, field, byte, byte2, byte4, such, many, end, framed, whole, recorded}
use Rattle.reading.proofs.Places.{bind_got, such_got}

-- a number in front
pub byte_front : (x : ℕ) (s : List ℕ) → byte (x ∷ s) ≡ got x s
unfolding byte field
byte_front x s = rw (le-leb 1 (suc (length s)) (omega arith))

-- .. that a test holds of
pub such_front : (p : ℕ → Bool) (x : ℕ) (s : List ℕ) → p x ≡ true → such byte p (x ∷ s) ≡ got x s
such_front p x s h = such_got byte p (x ∷ s) (byte_front x s) h

pub byte2_front : (x y : ℕ) (s : List ℕ) → byte2 (x ∷ y ∷ s) ≡ got (256 * x + y) s
unfolding byte2 field
byte2_front x y s = rw (le-leb 2 (suc (suc (length s))) (omega arith))

pub byte4_front : (x y z w : ℕ) (s : List ℕ) → byte4 (x ∷ y ∷ z ∷ w ∷ s) ≡ got (256 * (256 * (256 * x + y) + z) + w) s
unfolding byte4 field
byte4_front x y z w s = rw (le-leb 4 (suc (suc (suc (suc (length s))))) (omega arith))

pub end_front : end [] ≡ got tt []
unfolding end
end_front = refl

-- so many bytes
pub bytes_front : (xs s : List ℕ) → many (length xs) byte (xs ++ s) ≡ got xs s
unfolding many yield
bytes_front [] s = refl
bytes_front (x ∷ xs) s = bind_got _ _ _ (byte_front x (xs ++ s)) ∙ bind_got _ _ _ (bytes_front xs s)

-- a list, where each of its elements is read back
pub many_printed : {A : Type 0} (r : Reader A) (out : A → List ℕ) (xs : List A) → ((x : A) → Mem x xs → (s : List ℕ) → r (out x ++ s) ≡ got x s)
    → (s : List ℕ) → many (length xs) r (concat out xs ++ s) ≡ got xs s
unfolding many yield concat
many_printed r out [] f s = refl
many_printed r out (x ∷ xs) f s =
    ap (many (suc (length xs)) r) (append_assoc (out x) (concat out xs) s)
    ∙ (bind_got _ _ _ (f x (here refl) (concat out xs ++ s)) ∙ bind_got _ _ _ (many_printed r out xs (λ y m. f y (there m)) s))

-- a record whose length is read back
pub framed_printed :
    (size : Reader ℕ) (out : ℕ → List ℕ) (b s : List ℕ) → ((t : List ℕ) → size (out (length b) ++ t) ≡ got (length b) t) →
    framed size ((out (length b) ++ b) ++ s) ≡ got b s
unfolding framed
framed_printed size out b s h =
    ap (framed size) (append_assoc (out (length b)) b s)
    ∙ (bind_got _ _ _ (h (b ++ s)) ∙ rw (le-leb (length b) (length (b ++ s)) (omega (arith, length-append b s)), take-append_seam b s, drop-append_seam b s))

pub recorded_printed : {A : Type 0} (size : Reader ℕ) (out : ℕ → List ℕ) (r : Reader A) (b s : List ℕ) {a : A} → ((t : List ℕ) → size (out (length b) ++ t) ≡ got (length b) t)
    → r b ≡ got a [] → recorded size r ((out (length b) ++ b) ++ s) ≡ got a s
unfolding recorded whole next
recorded_printed size out r b s h k = bind_got _ _ _ (framed_printed size out b s h) ∙ rw (k, end_front)
