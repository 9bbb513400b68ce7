-- Readers that take some bytes in front: they leave the rest, and what they read does not depend on it.
use mathlib.Core.Path.{◌≡◌, refl, sym, ap, ◌∙◌}
use mathlib.Core.Bool.{Bool, true, false, cond}
use mathlib.Core.List.{List, [], ◌∷◌, ◌++◌}
use Prim.Native.Nat.{ℕ, zero, suc, ◌+◌, ◌≤◌}
use native.Mathlib.Omega.{arith}
use borrow.Author.Tests.{le-leb, leb-true}
use lib.Dec.{leb}
use lib.ListN.{length, drop, length-append, get_or-append}
use lib.Seq.{drop-append-le}
use Rattle.reading.specs.Reading.{Fault, got, fault, length_fault, Reader, yield, ◌>>=◌, field, byte, byte2, byte4, such, many}
use Rattle.reading.specs.Places.{onward}
use Rattle.reading.proofs.Reading.{no_answer, bind_at, such_at}
use Rattle.reading.proofs.Places.{onward_all, onward_onward, length_onward, bind_got, such_got}

pub record InFront {A : Type 0} (r : Reader A) : Type 0 where
  pub leaves : (s : List ℕ) {a : A} {t : List ℕ} → r s ≡ got a t → (n : ℕ) × (n ≤ length s) × (t ≡ onward s n)
  pub alike : (s u : List ℕ) {a : A} {t : List ℕ} → r s ≡ got a t → r (s ++ u) ≡ got a (t ++ u)

pub yield_front : {A : Type 0} (a : A) → InFront (yield a)
unfolding yield
yield_front a = record {
  leaves = λ s e. (0, omega arith, (let z : _ ≡ s = cc in z) ∙ sym (onward_all s));
  alike = λ s u e. cc;
}

pub fault_front : {A : Type 0} (f : Fault) → InFront {A = A} (λ s. fault f)
fault_front f = record { leaves = λ s e. no_answer e; alike = λ s u e. no_answer e }

pub bind_front : {A B : Type 0} (r : Reader A) (k : A → Reader B) → InFront r → ((a : A) → InFront (k a)) → InFront (r >>= k)
bind_front r k p q = record {
  leaves = λ s e.
      let w = bind_at r k s e in
      let x = p.leaves s w.2 in
      let y = (q w.0).leaves w.1 w.3 in
      (x.0 + y.0, omega (arith, ap length x.2, length_onward s x.0), y.2 ∙ ap (λ t. onward t y.0) x.2 ∙ onward_onward s x.0 y.0);
  alike = λ s u e.
      let w = bind_at r k s e in
      bind_got r k (s ++ u) (p.alike s u w.2) ∙ (q w.0).alike w.1 u w.3;
}

pub such_front : (r : Reader ℕ) (p : ℕ → Bool) → InFront r → InFront (such r p)
such_front r p q = record {
  leaves = λ s e. q.leaves s (such_at r p s e).1;
  alike = λ s u e. let w = such_at r p s e in such_got r p (s ++ u) (q.alike s u w.1) w.0;
}

-- a field whose value its own bytes decide
module _ (n : ℕ) (value : List ℕ → ℕ) where
  pub field_at : (s : List ℕ) {a : ℕ} {t : List ℕ} → field n value s ≡ got a t → (n ≤ length s) × (a ≡ value s) × (t ≡ drop n s)
  unfolding field
  field_at s {a} {t} e = go (leb n (length s)) refl e
    where
      go : (b : Bool) → leb n (length s) ≡ b → cond b (got (value s) (drop n s)) (fault length_fault) ≡ got a t → (n ≤ length s) × (a ≡ value s) × (t ≡ drop n s)
      go true h k = (leb-true n (length s) h, cc, cc)
      go false h k = no_answer k

  pub field_front : ((s u : List ℕ) → n ≤ length s → value (s ++ u) ≡ value s) → InFront (field n value)
  unfolding field onward
  field_front same = record {
    leaves = λ s e. let w = field_at s e in (n, w.0, w.2);
    alike = λ s u e.
        let w = field_at s e in
        let l : n ≤ length (s ++ u) = omega (arith, length-append s u, w.0) in
        rw (le-leb n (length (s ++ u)) l, same s u w.0, drop-append-le n s u w.0, w.1, w.2);
  }

pub byte_front : InFront byte
unfolding byte
byte_front = field_front 1 _ (λ s u h. get_or-append s u 0 0 h)

pub byte2_front : InFront byte2
unfolding byte2
byte2_front = field_front 2 _ (λ s u h. rw (get_or-append s u 0 0 (omega arith), get_or-append s u 0 1 (omega arith)))

pub byte4_front : InFront byte4
unfolding byte4
byte4_front = field_front 4 _ (λ s u h.
    rw (
      get_or-append s u 0 0 (omega arith),
      get_or-append s u 0 1 (omega arith),
      get_or-append s u 0 2 (omega arith),
      get_or-append s u 0 3 (omega arith),
    ))

pub many_front : {A : Type 0} (n : ℕ) (r : Reader A) → InFront r → InFront (many n r)
unfolding many
many_front zero r p = yield_front []
many_front (suc n) r p = bind_front r _ p (λ x. bind_front (many n r) _ (many_front n r p) (λ xs. yield_front (x ∷ xs)))
