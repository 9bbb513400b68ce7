-- How many bytes a reader takes: of a file that was read, each record has at most so many.
use mathlib.Core.Path.{◌≡◌, refl, sym, ap, ◌∙◌, subst}
use mathlib.Core.Bool.{Bool, true, false, cond}
use mathlib.Core.Logic.{⊎_elim}
use mathlib.Core.List.Memᴰ.{cases_cons}
use mathlib.Core.List.Memᴰ.{not-nil}
use mathlib.Core.List.{List, [], ◌∷◌, Memᴰ as Mem}
use Prim.Native.Nat.{ℕ, zero, suc, ◌+◌, ◌≤◌}
use native.Mathlib.Omega.{arith}
use borrow.Author.Tests.{leb-true, eqb-true}
use lib.Dec.{leb, eqb}
use lib.ListN.{length, take, drop, length-take, length-drop}
use Rattle.reading.specs.Reading.{Fault, got, fault, Reader, field, byte, byte2, such, many, end, framed, whole, recorded}
use Rattle.reading.specs.Places.{onward}
use Rattle.reading.proofs.Reading.{no_answer, got_value, got_rest, next_at, bind_at, yield_at, yield_rest, such_at}
use Rattle.reading.proofs.InFront.{field_at}

-- a reader that takes n bytes in front, and one that leaves at most what it is given
abbrev pub Consumes : {A : Type 0} → ℕ → Reader A → Type 0
Consumes {A} n r = (s : List ℕ) (a : A) (t : List ℕ) → r s ≡ got a t → length t + n ≡ length s

abbrev pub Shrinks : {A : Type 0} → Reader A → Type 0
Shrinks {A} r = (s : List ℕ) (a : A) (t : List ℕ) → r s ≡ got a t → length t ≤ length s

field_consumes : (n : ℕ) (value : List ℕ → ℕ) → Consumes n (field n value)
unfolding onward
field_consumes n value s x t h = let k = field_at n value s h in omega (arith, k.0, ap length k.2, length-drop n s)

pub byte_consumes : Consumes 1 byte
unfolding byte
byte_consumes = field_consumes 1 _

pub byte2_consumes : Consumes 2 byte2
unfolding byte2
byte2_consumes = field_consumes 2 _

pub such_consumes : (n : ℕ) (r : Reader ℕ) (p : ℕ → Bool) → Consumes n r → Consumes n (such r p)
such_consumes n r p f s x t h = f s x t (such_at r p s h).1

pub bytes_consume : (n : ℕ) → Consumes n (many n byte)
unfolding many
bytes_consume zero s xs t h = omega (arith, ap length (yield_rest _ s h))
bytes_consume (suc n) s xs t h =
    let a = bind_at byte _ s h in
    let b = bind_at (many n byte) _ a.1 a.3 in
    omega (arith, byte_consumes s a.0 a.1 a.2, bytes_consume n a.1 b.0 b.1 b.2, ap length (yield_rest _ b.1 b.3))

-- nothing is left
pub end_at : (s : List ℕ) {u : Unit {0}} {t : List ℕ} → end s ≡ got u t → s ≡ []
unfolding end
end_at s {u} {t} h = go (eqb (length s) 0) refl h
  where
    empty : (s : List ℕ) → length s ≡ 0 → s ≡ []
    empty [] e = refl
    empty (x ∷ xs) e = absurd (omega arith)

    go : (b : Bool) → eqb (length s) 0 ≡ b → cond b (got tt s) (fault Fault.length_fault) ≡ got u t → s ≡ []
    go true e k = empty s (eqb-true (length s) 0 e)
    go false e k = no_answer k

-- a record's length and its bytes are taken, and all of its bytes are used
pub framed_at : (n : ℕ) (size : Reader ℕ) → Consumes n size → (s : List ℕ) {u t : List ℕ} → framed size s ≡ got u t → length u + length t + n ≡ length s
unfolding framed
framed_at n size f s {u} {t} h = let w = bind_at size _ s h in go w.0 w.1 (f s w.0 w.1 w.2) (leb w.0 (length w.1)) refl w.3
  where
    go : (m : ℕ) (v : List ℕ) → length v + n ≡ length s → (b : Bool) → leb m (length v) ≡ b →
        cond b (got (take m v) (drop m v)) (fault Fault.length_fault) ≡ got u t → length u + length t + n ≡ length s
    go m v e true l k =
        let y : take m v ≡ u = cc in
        let z : drop m v ≡ t = cc in
        omega (arith, leb-true m (length v) l, length-take m v, length-drop m v, ap length y, ap length z)
    go m v e false l k = no_answer k

pub recorded_all : {A : Type 0} (n : ℕ) (size : Reader ℕ) → Consumes n size → (r : Reader A) (s : List ℕ) {a : A} {t : List ℕ} → recorded size r s ≡ got a t
    → (u : List ℕ) × (r u ≡ got a []) × (length u + length t + n ≡ length s)
unfolding recorded whole
recorded_all n size f r s h =
    let w = bind_at (framed size) _ s h in
    let x = next_at (r w.0) _ w.3 in
    let z = next_at (end x.1) _ x.3 in
    let content = x.2 ∙ ap (λ v. got x.0 v) (end_at x.1 z.2) ∙ ap (λ y. got y []) (got_value z.3) in
    (w.0, content, omega (arith, framed_at n size f s w.2, ap length (got_rest z.3)))

pub recorded_shrinks : {A : Type 0} (n : ℕ) (size : Reader ℕ) → Consumes n size → (r : Reader A) → Shrinks (recorded size r)
recorded_shrinks n size f r s a t h = let w = recorded_all n size f r s h in omega (arith, w.2)

-- of many that shrink each is read within the bytes
pub many_within : {A : Type 0} (n : ℕ) (r : Reader A) → Shrinks r → (s : List ℕ) {xs : List A} {t : List ℕ} → many n r s ≡ got xs t
    → (length t ≤ length s) × ((x : A) → Mem x xs → (u : List ℕ) × (v : List ℕ) × (r u ≡ got x v) × (length u ≤ length s))
unfolding many
many_within zero r f s h = (omega (arith, ap length (yield_rest _ s h)), λ x m. absurd (not-nil (subst (Mem x) (sym (yield_at s h)) m)))
many_within (suc n) r f s {xs} h =
    let a = bind_at r _ s h in
    let b = bind_at (many n r) _ a.1 a.3 in
    let k = many_within n r f a.1 b.2 in
    let l : length a.1 ≤ length s = f s a.0 a.1 a.2 in (
      omega (arith, k.0, ap length (yield_rest _ b.1 b.3)),
      λ x m.
          ⊎_elim (λ q. (s, a.1, a.2 ∙ ap (λ y. got y a.1) (sym q), omega arith))
          (λ j. let w = k.1 x j in (w.0, w.1, w.2, omega (arith, w.3)))
          (cases_cons (subst (Mem x) (sym (yield_at b.1 b.3)) m)),
    )
