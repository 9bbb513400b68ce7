-- Readers at a place: what the bytes from a place on give, by the test that the code makes.
use mathlib.Core.Path.{◌≡◌, refl, sym, ap, ◌∙◌}
use mathlib.Core.Bool.{Bool, true, false, cond}
use mathlib.Core.List.{List}
use Prim.Native.Nat.{ℕ, ◌+◌, ◌*◌, ◌-◌, ◌≤◌, ◌<◌, min}
use native.Mathlib.Omega.{arith}
use native.Mathlib.Decide.{dec_le}
use native.Mathlib.Nat.{min-eq_left, min-eq_right}
use borrow.Author.Tests.{le-leb, lt-leb, eq-eqb, ne_eqb, ltb-true, ltb-false}
use lib.Dec.{ltb}
use lib.ListN.{length, get_or, take, drop, length-drop, drop_of_length-le}
use lib.Seq.{get_or-drop, drop-drop, take_all}
use Rattle.std.specs.Prelude.{Result, Ok, Err}
use Rattle.std.specs.Result.{IsErrAnd}
use Rattle.reading.specs.Places.{onward, fault_of, read_of, end_of, reached, reached_end, wholly}
use Rattle.reading.specs.declared.field.Fault.{Fault as FaultCode}
use Rattle.reading.specs.declared.field.Fault.TheVariants as Fl
use Rattle.reading.specs.Reading.{Fault, length_fault, range_fault, Read, got, fault, Reader, yield, next, ◌>>=◌, ◌>>◌, field, byte}
use Rattle.reading.specs.Reading.{byte2, byte4, such, end, framed, whole, recorded, mapped, skipped}

-- a field of n bytes at a place that has so many, and at one that has not
pub field_some : (n : ℕ) (value : List ℕ → ℕ) (s : List ℕ) (at : ℕ) → n ≤ length s - at → field n value (onward s at) ≡ got (value (onward s at)) (onward s (at + n))
unfolding field onward
field_some n value s at h = rw (length-drop at s, le-leb n (length s - at) h, drop-drop n at s)

pub field_none : (n : ℕ) (value : List ℕ → ℕ) (s : List ℕ) (at : ℕ) → length s - at < n → field n value (onward s at) ≡ fault length_fault
unfolding field onward
field_none n value s at h = rw (length-drop at s, lt-leb n (length s - at) h)

pub get_d_onward : (s : List ℕ) (at i : ℕ) → get_or (onward s at) i 0 ≡ get_or s (at + i) 0
unfolding onward
get_d_onward s at i = get_or-drop at s i 0

pub get_d_here : (s : List ℕ) (at : ℕ) → get_or (onward s at) 0 0 ≡ get_or s at 0
get_d_here s at = get_d_onward s at 0 ∙ ap (λ (i : ℕ). get_or s i 0) (omega arith)

pub onward_all : (s : List ℕ) → onward s 0 ≡ s
unfolding onward
onward_all s = refl

-- past the end nothing is left, so a place there stands for the end
pub got_within : {A : Type 0} {a : A} (s : List ℕ) (at : ℕ) {from : ℕ} → from ≡ min at (length s) → got a (onward s at) ≡ got a (onward s from)
unfolding onward
got_within {a = a} s at {from} e = ap (got a) (elim (dec_le at (length s)) [
  | yes h ↦ ap (λ (n : ℕ). drop n s) (sym (e ∙ min-eq_left h))
  | no h ↦ drop_of_length-le s (omega arith) ∙ sym (drop_of_length-le s (let z : length s ≤ from = omega (arith, e ∙ min-eq_right (let y : length s ≤ at = omega arith in y)) in z))
])

pub length_onward : (s : List ℕ) (at : ℕ) → length (onward s at) ≡ length s - at
unfolding onward
length_onward s at = length-drop at s

pub onward_onward : (s : List ℕ) (a n : ℕ) → onward (onward s a) n ≡ onward s (a + n)
unfolding onward
onward_onward s a n = drop-drop n a s

-- the part of a slice from a place on, as a callee has it: what it reads there, as the caller has it
pub part_onward : (s : List ℕ) (a : ℕ) → take (length s - a) (drop a s) ≡ onward s a
unfolding onward
part_onward s a = take_all (length s - a) (drop a s) (omega (arith, length-drop a s))

module _ {A : Type 0} (r : Reader A) (s : List ℕ) (a : ℕ) where
  pub part_got : {x : A} (n : ℕ) → r (take (length s - a) (drop a s)) ≡ got x (onward (take (length s - a) (drop a s)) n) → r (onward s a) ≡ got x (onward s (a + n))
  part_got n h = simp (part_onward s a, onward_onward s a n) at h

  pub part_fault : {f : Fault} → r (take (length s - a) (drop a s)) ≡ fault f → r (onward s a) ≡ fault f
  part_fault h = simp (part_onward s a) at h

-- the value of a byte, of two and of four, at a place
pub byte_some : (s : List ℕ) (at : ℕ) → at < length s → byte (onward s at) ≡ got (get_or s at 0) (onward s (at + 1))
unfolding byte
byte_some s at h = field_some 1 _ s at (omega arith) ∙ ap (λ x. got x (onward s (at + 1))) (get_d_here s at)

pub byte_none : (s : List ℕ) (at : ℕ) → length s ≤ at → byte (onward s at) ≡ fault length_fault
unfolding byte
byte_none s at h = field_none 1 _ s at (omega arith)

pub byte2_some : (s : List ℕ) (at : ℕ) {n : ℕ} → n ≡ length s - at → 2 ≤ n → byte2 (onward s at) ≡ got (256 * get_or s at 0 + get_or s (at + 1) 0) (onward s (at + 2))
unfolding byte2
byte2_some s at e h = field_some 2 _ s at (omega arith) ∙ rw (get_d_here s at, get_d_onward s at 1)

pub byte2_none : (s : List ℕ) (at : ℕ) {n : ℕ} → n ≡ length s - at → n < 2 → byte2 (onward s at) ≡ fault length_fault
unfolding byte2
byte2_none s at e h = field_none 2 _ s at (omega arith)

pub byte4_some : (s : List ℕ) (at : ℕ) {n : ℕ} → n ≡ length s - at → 4 ≤ n →
    byte4 (onward s at)
    ≡ got (256 * (256 * (256 * get_or s at 0 + get_or s (at + 1) 0) + get_or s (at + 2) 0) + get_or s (at + 3) 0)
    (onward s (at + 4))
unfolding byte4
byte4_some s at e h = field_some 4 _ s at (omega arith) ∙ rw (get_d_here s at, get_d_onward s at 1, get_d_onward s at 2, get_d_onward s at 3)

pub byte4_none : (s : List ℕ) (at : ℕ) {n : ℕ} → n ≡ length s - at → n < 4 → byte4 (onward s at) ≡ fault length_fault
unfolding byte4
byte4_none s at e h = field_none 4 _ s at (omega arith)

-- going on after what was read, and ending at a fault
module _ {A B : Type 0} (r : Reader A) (k : A → Reader B) (s : List ℕ) where
  pub bind_got : {a : A} {t : List ℕ} → r s ≡ got a t → (r >>= k) s ≡ k a t
  unfolding ◌>>=◌ next
  bind_got h = rw h

  pub bind_fault : {f : Fault} → r s ≡ fault f → (r >>= k) s ≡ fault f
  unfolding ◌>>=◌ next
  bind_fault h = rw h

-- .. and of two readers, the value of the second
pub then_got : {A B : Type 0} (r : Reader A) (q : Reader B) (s : List ℕ) {a : A} {t : List ℕ} → r s ≡ got a t → ◌>>◌ r q s ≡ q t
unfolding ◌>>◌ next
then_got r q s h = rw h

pub then_fault : {A B : Type 0} (r : Reader A) (q : Reader B) (s : List ℕ) {f : Fault} → r s ≡ fault f → ◌>>◌ r q s ≡ fault f
unfolding ◌>>◌ next
then_fault r q s h = rw h

pub next_got : {A B : Type 0} {q : Read A} (k : A → Reader B) {a : A} {t : List ℕ} → q ≡ got a t → next q k ≡ k a t
unfolding next
next_got k h = rw h

pub next_fault : {A B : Type 0} {q : Read A} (k : A → Reader B) {f : Fault} → q ≡ fault f → next q k ≡ fault f
unfolding next
next_fault k h = rw h

module _ (r : Reader ℕ) (p : ℕ → Bool) (s : List ℕ) where
  pub such_got : {x : ℕ} {t : List ℕ} → r s ≡ got x t → p x ≡ true → such r p s ≡ got x t
  unfolding such
  such_got h e = bind_got _ _ s h ∙ rw e

  pub such_not : {x : ℕ} {t : List ℕ} → r s ≡ got x t → p x ≡ false → such r p s ≡ fault range_fault
  unfolding such
  such_not h e = bind_got _ _ s h ∙ rw e

  pub such_fault : {f : Fault} → r s ≡ fault f → such r p s ≡ fault f
  unfolding such
  such_fault h = bind_fault _ _ s h

-- the bytes of a record whose length was read
module _ (size : Reader ℕ) (b s : List ℕ) (n from : ℕ) (h : size b ≡ got n (onward s from)) where
  pub framed_got : {m : ℕ} → m ≡ length s - from → n ≤ m → framed size b ≡ got (take (from + n - from) (drop from s)) (onward s (from + n))
  unfolding framed onward
  framed_got e l = bind_got _ _ b h ∙ rw (length-drop from s, le-leb n (length s - from) (omega arith), drop-drop n from s, (let z : from + n - from ≡ n = omega arith in z))

  pub framed_long : {m : ℕ} → m ≡ length s - from → m < n → framed size b ≡ fault length_fault
  unfolding framed onward
  framed_long e l = bind_got _ _ b h ∙ rw (length-drop from s, lt-leb n (length s - from) (omega arith))

pub framed_fault : (size : Reader ℕ) (b : List ℕ) {f : Fault} → size b ≡ fault f → framed size b ≡ fault f
unfolding framed
framed_fault size b h = bind_fault _ _ b h

-- what an answer of the code that is known says of the definition
pub answered : {Q D : Type 0} (meaning : Q → D) {q r : Q} {d : D} → meaning q ≡ d → q ≡ r → d ≡ meaning r
answered meaning h e = sym h ∙ ap meaning e

-- what `?` hands on is the error that it met
pub handed_on : {T E : Type 0} (r : Result T E) {e : E} → IsErrAnd r (λ x. x ≡ e) → r ≡ Err e
handed_on (Ok x) h = absurd h
handed_on (Err x) h = ap Err h

-- .. so a reader is at fault where `?` met the fault, if the definition is
pub read_err : {A : Type 0} (s : List ℕ) (r : Result (A × ℕ) FaultCode) (f : FaultCode) {d : Read A} → IsErrAnd r (λ x. x ≡ f) → d ≡ fault (fault_of f) → read_of s r ≡ d
read_err s r f h e = rw (handed_on r h, e)

pub reached_err : {A : Type 0} (s : List ℕ) (a : A) (r : Result ℕ FaultCode) (f : FaultCode) {d : Read A} → IsErrAnd r (λ x. x ≡ f) → d ≡ fault (fault_of f) → reached s a r ≡ d
reached_err s a r f h e = rw (handed_on r h, e)

-- only where a value ends, or its fault
abbrev pub place_of : {A E : Type 0} → Result (A × ℕ) E → Result ℕ E
place_of (Ok r) = Ok r.1
place_of (Err f) = Err f

pub read_skipped : {A : Type 0} (s : List ℕ) (r : Result (A × ℕ) FaultCode) {q : Result ℕ FaultCode} {d : Read A} → q ≡ place_of r → read_of s r ≡ d → reached s tt q ≡ skipped d
unfolding skipped mapped
read_skipped s (Ok r) e h = rw (e, ← h)
read_skipped s (Err f) e h = rw (e, ← h)

pub read_skipped_end : {A : Type 0} (r : Result (A × ℕ) FaultCode) {q : Result ℕ FaultCode} (l : ℕ) → q ≡ place_of r → end_of r ≤ l → reached_end q ≤ l
read_skipped_end (Ok r) l e h = rw e h
read_skipped_end (Err f) l e h = rw e h

-- the last field of a record, which is not looked at
pub reached_bind : {A B : Type 0} (s : List ℕ) (r : Reader A) (f : A → B) (b : List ℕ) (a : A) (q : Result ℕ FaultCode) → reached s a q ≡ r b → reached s (f a) q ≡ (r >>= λ x. yield (f x)) b
unfolding yield
reached_bind s r f b a (Ok n) h = sym (bind_got r _ b (sym h))
reached_bind s r f b a (Err e) h = sym (bind_fault r _ b (sym h))

-- nothing is left at a place, or something
pub end_none : (s : List ℕ) (n : ℕ) → length s ≤ n → end (onward s n) ≡ got tt (onward s n)
unfolding end onward
end_none s n h = rw (length-drop n s, eq-eqb (length s - n) 0 (omega arith))

pub end_some : (s : List ℕ) (n : ℕ) → n < length s → end (onward s n) ≡ fault length_fault
unfolding end onward
end_some s n h = rw (length-drop n s, ne_eqb (length s - n) 0 (λ e. omega arith))

-- a record's content that was read, of bytes p that end at `to`
pub recorded_got : {A : Type 0} (size : Reader ℕ) (r : Reader A) (b s p : List ℕ) (to m n : ℕ) (a : A) →
    framed size b ≡ got p (onward s to) → m ≡ length p → r (onward p 0) ≡ got a (onward p n) →
    reached s a (wholly n m to) ≡ recorded size r b
unfolding recorded whole next
recorded_got size r b s p to m n a h e k = used (ltb n m) refl ∙ sym (bind_got _ _ b h ∙ rw (sym (ap r (onward_all p)) ∙ k))
  where
    used : (t : Bool) → ltb n m ≡ t → reached s a (cond t (Err Fl.Length) (Ok to)) ≡ next (end (onward p n)) (λ u v. got a (onward s to))
    used true l = rw (end_some p n (omega (arith, ltb-true n m l)))
    used false l = rw (end_none p n (omega (arith, ltb-false n m l)))

-- or that was not
pub recorded_broken : {A : Type 0} (size : Reader ℕ) (r : Reader A) (b s p : List ℕ) (to : ℕ) {f : Fault} →
    framed size b ≡ got p (onward s to) → r (onward p 0) ≡ fault f → recorded size r b ≡ fault f
unfolding recorded whole next
recorded_broken size r b s p to h k = bind_got _ _ b h ∙ rw (sym (ap r (onward_all p)) ∙ k)

pub recorded_fault : {A : Type 0} (size : Reader ℕ) (r : Reader A) (b : List ℕ) {f : Fault} → framed size b ≡ fault f → recorded size r b ≡ fault f
unfolding recorded
recorded_fault size r b h = bind_fault _ _ b h
