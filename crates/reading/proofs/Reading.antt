-- What a reader that answers says of its parts.
use mathlib.Core.Path.{◌≡◌, refl, sym, ap, ◌∙◌, subst}
use mathlib.Core.Bool.{Bool, true, false, cond}
use mathlib.Core.Logic.{⊎_elim}
use mathlib.Core.List.Memᴰ.{cases_cons}
use mathlib.Core.List.Memᴰ.{not-nil}
use mathlib.Core.List.{List, Memᴰ as Mem}
use Prim.Native.Nat.{ℕ, zero, suc}
use native.Mathlib.Omega.{arith}
use lib.ListN.{length}
use Rattle.reading.specs.Reading.{Fault, range_fault, Read, got, fault, Reader, yield, next, ◌>>=◌, ◌>>◌, such, many, end, framed, whole, recorded, mapped, skipped}

-- a fault is no answer
pub no_answer : {A X : Type 0} {f : Fault} {a : A} {t : List ℕ} → fault f ≡ got a t → X
no_answer e = absurd (let z : ◌≡◌ {A = ℕ} 0 1 = cc in omega arith)

-- what was got is one value
pub got_value : {A : Type 0} {a b : A} {s t : List ℕ} → got a s ≡ got b t → a ≡ b
got_value e = cc

-- a value as another has it
pub got_by : {A : Type 0} {a b : A} {t : List ℕ} {r : Read A} → a ≡ b → r ≡ got b t → got a t ≡ r
got_by {t = t} e h = ap (λ a. got a t) e ∙ sym h

pub got_rest : {A : Type 0} {a b : A} {s t : List ℕ} → got a s ≡ got b t → s ≡ t
got_rest e = cc

pub next_at : {A B : Type 0} (r : Read A) (k : A → Reader B) {b : B} {u : List ℕ} → next r k ≡ got b u → (a : A) × (t : List ℕ) × (r ≡ got a t) × (k a t ≡ got b u)
unfolding next
next_at (got a t) k h = (a, t, refl, h)
next_at (fault f) k h = no_answer h

pub bind_at : {A B : Type 0} (r : Reader A) (k : A → Reader B) (s : List ℕ) {b : B} {u : List ℕ} → (r >>= k) s ≡ got b u →
    (a : A) × (t : List ℕ) × (r s ≡ got a t) × (k a t ≡ got b u)
unfolding ◌>>=◌
bind_at r k s h = next_at (r s) k h

pub then_at : {A B : Type 0} (r : Reader A) (q : Reader B) (s : List ℕ) {b : B} {u : List ℕ} → ◌>>◌ r q s ≡ got b u → (a : A) × (t : List ℕ) × (r s ≡ got a t) × (q t ≡ got b u)
unfolding ◌>>◌
then_at r q s h = next_at (r s) (λ a. q) h

pub yield_at : {A : Type 0} {a b : A} (s : List ℕ) {t : List ℕ} → yield a s ≡ got b t → a ≡ b
unfolding yield
yield_at s h = cc

pub yield_rest : {A : Type 0} (a : A) {b : A} (s : List ℕ) {t : List ℕ} → yield a s ≡ got b t → s ≡ t
unfolding yield
yield_rest a s h = cc

-- a value that a test holds of
pub such_at : (r : Reader ℕ) (p : ℕ → Bool) (s : List ℕ) {x : ℕ} {t : List ℕ} → such r p s ≡ got x t → (p x ≡ true) × (r s ≡ got x t)
unfolding such
such_at r p s {x} {t} h = let w = bind_at r _ s h in go w.0 w.1 (p w.0) refl w.2 w.3
  where
    go : (y : ℕ) (u : List ℕ) (b : Bool) → p y ≡ b → r s ≡ got y u → cond b (got y u) (fault Fault.range_fault) ≡ got x t → (p x ≡ true) × (r s ≡ got x t)
    go y u true e q k = (ap p (let z : x ≡ y = cc in z) ∙ e, q ∙ k)
    go y u false e q k = no_answer k

-- so many, each read somewhere
pub many_at : {A : Type 0} (n : ℕ) (r : Reader A) (s : List ℕ) {xs : List A} {t : List ℕ} → many n r s ≡ got xs t →
    (length xs ≡ n) × ((x : A) → Mem x xs → (u : List ℕ) × (v : List ℕ) × (r u ≡ got x v))
unfolding many
many_at zero r s h = let e = yield_at s h in (ap length (sym e), λ x m. absurd (not-nil (subst (Mem x) (sym e) m)))
many_at (suc n) r s {xs} h =
    let a = bind_at r _ s h in
    let b = bind_at (many n r) _ a.1 a.3 in
    let e = yield_at b.1 b.3 in
    let k = many_at n r a.1 b.2 in
    (ap length (sym e) ∙ ap suc k.0, λ x m. ⊎_elim (λ q. (s, a.1, a.2 ∙ ap (λ y. got y a.1) (sym q))) (λ j. k.1 x j) (cases_cons (subst (Mem x) (sym e) m)))

-- a record's content
pub recorded_at : {A : Type 0} (size : Reader ℕ) (r : Reader A) (s : List ℕ) {a : A} {t : List ℕ} → recorded size r s ≡ got a t → (u : List ℕ) × (v : List ℕ) × (r u ≡ got a v)
unfolding recorded whole
recorded_at size r s h =
    let w = bind_at (framed size) _ s h in
    let x = next_at (r w.0) _ w.3 in
    let z = next_at (end x.1) _ x.3 in
    (w.0, x.1, x.2 ∙ ap (λ y. got y x.1) (got_value z.3))

-- what is read, as f has it: a fault stays, and what was got is f of something
module _ {A B : Type 0} (f : A → B) where
  pub mapped_got : {r : Read A} {a : A} {t : List ℕ} → r ≡ got a t → mapped f r ≡ got (f a) t
  unfolding mapped
  mapped_got h = rw h

  pub mapped_fault : {r : Read A} {e : Fault} → r ≡ fault e → mapped f r ≡ fault e
  unfolding mapped
  mapped_fault h = rw h

  pub mapped_at : (r : Read A) {b : B} {t : List ℕ} → mapped f r ≡ got b t → (a : A) × (r ≡ got a t) × (f a ≡ b)
  unfolding mapped
  mapped_at (got a u) h = (a, cc, cc)
  mapped_at (fault e) h = no_answer h

  pub fault_at : (r : Read A) {e : Fault} → mapped f r ≡ fault e → r ≡ fault e
  unfolding mapped
  fault_at (got a u) h = no_answer (sym h)
  fault_at (fault d) h = cc

pub mapped_mapped : {A B C : Type 0} (g : B → C) (f : A → B) (r : Read A) → mapped g (mapped f r) ≡ mapped (λ a. g (f a)) r
unfolding mapped
mapped_mapped g f (got a t) = refl
mapped_mapped g f (fault e) = refl

pub skipped_mapped : {A B : Type 0} (f : A → B) (r : Read A) → skipped (mapped f r) ≡ skipped r
unfolding skipped
skipped_mapped f r = mapped_mapped (λ b. tt) f r

-- and of two readers, one after the other
mapped_next : {A B C : Type 0} (f : B → C) (r : Read A) (k : A → Reader B) → mapped f (next r k) ≡ next r (λ a s. mapped f (k a s))
unfolding mapped next
mapped_next f (got a t) k = refl
mapped_next f (fault e) k = refl

pub mapped_bind : {A B C : Type 0} (f : B → C) (r : Reader A) (k : A → Reader B) (s : List ℕ) → mapped f ((r >>= k) s) ≡ (r >>= λ a t. mapped f (k a t)) s
unfolding ◌>>=◌
mapped_bind f r k s = mapped_next f (r s) k

pub mapped_yield : {A B C : Type 0} (f : B → C) (g : A → B) (r : Reader A) (s : List ℕ) → mapped f ((r >>= λ a. yield (g a)) s) ≡ mapped (λ a. f (g a)) (r s)
unfolding ◌>>=◌ next yield mapped
mapped_yield f g r s = go (r s)
  where
    go : (q : Read _) → mapped f (next q (λ a. yield (g a))) ≡ mapped (λ a. f (g a)) q
    go (got a t) = refl
    go (fault e) = refl

-- readers whose parts give the same of all bytes
pub bind_same : {A B : Type 0} (r q : Reader A) (k j : A → Reader B) → ((s : List ℕ) → r s ≡ q s) → ((a : A) (s : List ℕ) → k a s ≡ j a s)
    → (s : List ℕ) → (r >>= k) s ≡ (q >>= j) s
unfolding ◌>>=◌ next
bind_same r q k j h i s = ap (λ x. next x k) (h s) ∙ go (q s)
  where
    go : (x : Read _) → next x k ≡ next x j
    go (got a t) = i a t
    go (fault f) = refl

pub such_same : (r : Reader ℕ) (p q : ℕ → Bool) → ((v : ℕ) → p v ≡ q v) → (s : List ℕ) → such r p s ≡ such r q s
unfolding such ◌>>=◌ next
such_same r p q h s = go (r s)
  where
    go : (a : Read ℕ) → next a (λ x t. cond (p x) (got x t) (fault range_fault)) ≡ next a (λ x t. cond (q x) (got x t) (fault range_fault))
    go (got x t) = ap (λ (b : Bool). cond b (got x t) (fault range_fault)) (h x)
    go (fault f) = refl

pub many_same : {A : Type 0} (r q : Reader A) → ((s : List ℕ) → r s ≡ q s) → (n : ℕ) (s : List ℕ) → many n r s ≡ many n q s
unfolding many
many_same r q h zero s = refl
many_same r q h (suc n) s = bind_same r q _ _ h (λ x t. bind_same (many n r) (many n q) _ _ (many_same r q h n) (λ xs u. refl) t) s

pub recorded_same : {A : Type 0} (size : Reader ℕ) (r q : Reader A) → ((s : List ℕ) → r s ≡ q s) → (s : List ℕ) → recorded size r s ≡ recorded size q s
unfolding recorded whole
recorded_same size r q h = bind_same _ _ _ _ (λ s. refl) (λ bytes rest. ap (λ x. next x (λ a t. next (end t) (λ u v. got a rest))) (h bytes))
