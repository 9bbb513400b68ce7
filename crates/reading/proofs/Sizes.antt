-- Readers that take a fixed number of bytes: what they leave, and where the parts of a record stand.
use mathlib.Core.Path.{◌≡◌, refl, sym, ap, ap₂, ◌∙◌}
use mathlib.Core.Bool.{Bool, true, false, cond}
use mathlib.Core.List.{List, [], ◌∷◌, ◌++◌}
use Prim.Native.Nat.{ℕ, zero, suc, ◌+◌, ◌*◌, ◌<◌}
use native.Mathlib.Omega.{arith}
use native.Mathlib.Nat.{zero-mul, suc-mul}
use lib.Dec.{leb}
use lib.ListN.{length, get_or, take, drop, take-append-drop}
use lib.Seq.{drop-drop}
use Rattle.reading.specs.Reading.{Fault, got, fault, Reader, yield, ◌>>=◌, field, byte, byte2, byte4, such, many, end, framed, whole, recorded}
use Rattle.std.specs.Prelude.{Result, Ok, Err}
use Rattle.reading.specs.Places.{onward, read_of}
use Rattle.reading.specs.declared.field.Fault.{Fault as FaultCode}
use Rattle.reading.proofs.Reading.{no_answer, got_value, got_rest, next_at, bind_at, yield_rest, such_at}
use Rattle.reading.proofs.Places.{length_onward, onward_all, onward_onward, get_d_here}
use Rattle.reading.proofs.InFront.{InFront, field_at, byte_front}
use Rattle.reading.proofs.Lengths.{end_at}
use Rattle.lists.proofs.Parts.{part_front}

-- what follows a value that is read stands so many bytes on
abbrev pub Takes : {A : Type 0} → Reader A → ℕ → Type 0
Takes {A} r n = (s : List ℕ) (a : A) (t : List ℕ) → r s ≡ got a t → t ≡ onward s n

pub yield_takes : {A : Type 0} (a : A) → Takes (yield a) 0
yield_takes a s b t h = sym (yield_rest a s h) ∙ sym (onward_all s)

pub bind_takes : {A B : Type 0} (r : Reader A) (k : A → Reader B) (n m : ℕ) → Takes r n → ((a : A) → Takes (k a) m) → Takes (r >>= k) (n + m)
bind_takes r k n m f g s b t h =
    let w = bind_at r k s h in
    g w.0 w.1 b t w.3 ∙ ap (λ (l : List ℕ). onward l m) (f s w.0 w.1 w.2) ∙ onward_onward s n m

pub field_takes : (n : ℕ) (value : List ℕ → ℕ) → Takes (field n value) n
unfolding onward
field_takes n value s x t h = (field_at n value s h).2

pub byte_takes : Takes byte 1
unfolding byte
byte_takes = field_takes 1 _

pub byte2_takes : Takes byte2 2
unfolding byte2
byte2_takes = field_takes 2 _

pub byte4_takes : Takes byte4 4
unfolding byte4
byte4_takes = field_takes 4 _

pub such_takes : (r : Reader ℕ) (p : ℕ → Bool) (n : ℕ) → Takes r n → Takes (such r p) n
such_takes r p n f s x t h = f s x t (such_at r p s h).1

pub many_takes : {A : Type 0} (r : Reader A) (k : ℕ) → Takes r k → (n : ℕ) → Takes (many n r) (n * k)
unfolding many
many_takes r k f zero s xs t h = yield_takes [] s xs t h ∙ ap (onward s) (sym (zero-mul k))
many_takes r k f (suc n) s xs t h =
    bind_takes r _ k (n * k + 0) f (λ x. bind_takes (many n r) _ (n * k) 0 (many_takes r k f n) (λ ys. yield_takes (x ∷ ys))) s xs t h
    ∙ ap (onward s) (omega (arith, suc-mul n k))

-- what is read at a place, and the place after it
pub onto :
    (s : List ℕ) (at n : ℕ) {A : Type 0} (r : Reader A) (k : ℕ) {a : A} {u t : List ℕ} → u ≡ onward s at → Takes r n →
    at + n ≡ k → r u ≡ got a t → (r (onward s at) ≡ got a (onward s k)) × (t ≡ onward s k)
onto s at n r k {a} {u} {t} e f g h =
    let z : t ≡ onward s k = f u a t h ∙ ap (λ (l : List ℕ). onward l n) e ∙ onward_onward s at n ∙ ap (onward s) g in
    (ap r (sym e) ∙ h ∙ ap (got a) z, z)

-- the byte that is read at a place
pub byte_value : (s : List ℕ) (at : ℕ) {x : ℕ} {t : List ℕ} → byte (onward s at) ≡ got x t → get_or s at 0 ≡ x
unfolding byte
byte_value s at h = sym ((field_at 1 _ (onward s at) h).1 ∙ get_d_here s at)

-- the value that is read
pub read_value : {A : Type 0} (s : List ℕ) (r : Result (A × ℕ) FaultCode) {b : A} {t : List ℕ} → read_of s r ≡ got b t → (x : A × ℕ) × (r ≡ Ok x) × (x.0 ≡ b)
read_value s (Ok x) h = (x, refl, got_value h)
read_value s (Err f) h = no_answer h

-- a record's content is read, whole, in so many bytes after the length
recorded_cut : {A : Type 0} (size : Reader ℕ) (r : Reader A) (s : List ℕ) {a : A} {t : List ℕ} → recorded size r s ≡ got a t
    → (n : ℕ) × (u : List ℕ) × (size s ≡ got n u) × (r (take n u) ≡ got a []) × (t ≡ drop n u)
unfolding recorded framed whole
recorded_cut size r s h =
    let w = bind_at (framed size) _ s h in
    let z = bind_at size _ s w.2 in
    let x = next_at (r w.0) _ w.3 in
    let e = next_at (end x.1) _ x.3 in
    let p = part z.0 z.1 (leb z.0 (length z.1)) z.3 in
    (z.0, z.1, z.2, ap r (sym p.0) ∙ x.2 ∙ ap₂ got (got_value e.3) (end_at x.1 e.2), sym (got_rest e.3) ∙ p.1)
  where
    part : {p v : List ℕ} (n : ℕ) (u : List ℕ) (b : Bool) → cond b (got (take n u) (drop n u)) (fault Fault.length_fault) ≡ got p v → (p ≡ take n u) × (v ≡ drop n u)
    part n u true k = (cc, cc)
    part n u false k = no_answer k

-- .. which stand in the file before what follows
pub recorded_part : {A : Type 0} (size : Reader ℕ) (r : Reader A) (s : List ℕ) {a : A} {t : List ℕ} → recorded size r s ≡ got a t
    → (n : ℕ) × (u : List ℕ) × (p : List ℕ) × (v : List ℕ) × (w : List ℕ) × (size s ≡ got n u) × (p ++ v ≡ u) × (r p ≡ got a w)
recorded_part size r s h = let c = recorded_cut size r s h in (c.0, c.1, take c.0 c.1, drop c.0 c.1, [], c.2, take-append-drop c.0 c.1, c.3)

-- .. so that a reader in front reads it there too
pub recorded_inside : {A : Type 0} (size : Reader ℕ) (r : Reader A) → InFront r → (s : List ℕ) {a : A} {t : List ℕ} →
    recorded size r s ≡ got a t → (n : ℕ) × (u : List ℕ) × (size s ≡ got n u) × (r u ≡ got a t)
recorded_inside size r f s {a} h =
    let c = recorded_cut size r s h in
    (c.0, c.1, c.2, ap r (sym (take-append-drop c.0 c.1)) ∙ f.alike (take c.0 c.1) (drop c.0 c.1) c.3 ∙ ap (got a) (sym c.4))

-- a record that is read stands before the end
pub recorded_before : {A : Type 0} (r : Reader A) (s : List ℕ) (at : ℕ) {a : A} {t : List ℕ} → recorded byte2 r (onward s at) ≡ got a t → at < length s
unfolding byte2
recorded_before r s at h = let w = recorded_part byte2 r (onward s at) h in omega (arith, (field_at 2 _ (onward s at) w.5).0, length_onward s at)

-- a byte that is read in front of what follows, and where it stands
pub byte_here :
    {B : Type 0} (s v : List ℕ) (at m : ℕ) (test : ℕ → Bool) (k : ℕ → Reader B) (q : List ℕ) {b : B} {w : List ℕ} →
    q ++ v ≡ onward s (at + m) → (such byte test >>= k) q ≡ got b w →
    (z : ℕ) × (u : List ℕ) × (get_or s (at + m) 0 ≡ z) × (u ++ v ≡ onward s (at + (m + 1))) × (k z u ≡ got b w)
byte_here s v at m test k q e h =
    let a = bind_at (such byte test) k q h in
    let f = onto s (at + m) 1 byte (at + (m + 1)) e byte_takes (let z : at + m + 1 ≡ at + (m + 1) = omega arith in z) (byte_front.alike q v (such_at byte test q a.2).1) in
    (a.0, a.1, byte_value s (at + m) f.0, f.1, a.3)

-- what is read in front of a part is read in the whole
pub part_read : {A : Type 0} (r : Reader A) → InFront r → (s : List ℕ) (from n b : ℕ) {a : A} {t : List ℕ} →
    r (onward (take n (drop from s)) b) ≡ got a t → (u : List ℕ) × (r (onward s (from + b)) ≡ got a u)
unfolding onward
part_read r f s from n b {a} {t} h =
    let w = part_front (drop from s) n b in
    (t ++ w.0, ap r (sym (drop-drop b from s) ∙ w.1) ∙ f.alike _ w.0 h)
