-- The loop that reads elements one after the other: what it has seen, and what is left to read.
use mathlib.Core.Path.{◌≡◌, refl, sym, ap, ◌∙◌, subst}
use mathlib.Core.List.Memᴰ.{head as here}
use mathlib.Core.List.{List, [], ◌∷◌, ◌++◌, append_assoc, append-nil, Memᴰ as Mem}
use mathlib.Core.List.Memᴰ.{append_left}
use mathlib.Core.List.Memᴰ.{append_right}
use Prim.Native.Nat.{ℕ, zero, suc, ◌+◌, ◌*◌, ◌-◌, ◌≤◌, ◌<◌}
use native.Mathlib.Omega.{arith}
use native.Mathlib.Nat.{zero-mul, suc-mul}
use lib.ListN.{length, get_or, length-append}
use Rattle.reading.specs.Reading.{Fault, Read, got, fault, Reader, yield, next, ◌>>=◌, many}
use Rattle.reading.specs.Places.{onward}
use Rattle.reading.proofs.Places.{onward_all, onward_onward}
use Rattle.reading.proofs.Reading.{next_at, bind_at, yield_at}

-- many n r of the bytes b, where i elements are seen and the bytes `rest` are left
pub record Going {A : Type 0} (r : Reader A) (n : ℕ) (b rest : List ℕ) (i : ℕ) (seen : List A) : Type 0 where
  pub count : length seen ≡ i
  pub within : i ≤ n
  pub so_far : many n r b ≡ next (many (n - i) r rest) (λ ys. yield (seen ++ ys))

module _ {A : Type 0} where
  then_yield : (p : Read (List A)) → p ≡ next p (λ ys. yield ys)
  unfolding next yield
  then_yield (got xs t) = refl
  then_yield (fault f) = refl

  regroup : (q : Read (List A)) (xs : List A) (x : A) →
      next (next q (λ ys. yield (x ∷ ys))) (λ ys. yield (xs ++ ys)) ≡ next q (λ ys. yield ((xs ++ (x ∷ [])) ++ ys))
  unfolding next yield
  regroup (got ys t) xs x = ap (λ (l : List A). got l t) (sym (append_assoc xs (x ∷ []) ys))
  regroup (fault f) xs x = refl

module _ {A : Type 0} (r : Reader A) (n : ℕ) (b : List ℕ) where
  pub going_none : Going r n b b 0 []
  going_none = record { count = refl; within = omega arith; so_far = rw (native.Mathlib.Nat.sub-zero n) (then_yield (many n r b)) }

  module _ {rest : List ℕ} {i : ℕ} {seen : List A} (G : Going r n b rest i seen) where
    first : i < n → many (n - i) r rest ≡ many (suc (n - (i + 1))) r rest
    first h = ap (λ (k : ℕ). many k r rest) (omega arith)

    then_rest : Read (List A) → Read (List A)
    then_rest p = next p (λ ys. yield (seen ++ ys))

    pub going_more : {x : A} {t : List ℕ} → i < n → r rest ≡ got x t → Going r n b t (i + 1) (seen ++ (x ∷ []))
    unfolding many ◌>>=◌ next then_rest
    going_more {x} {t} h q =
        let z : many (n - i) r rest ≡ next (many (n - (i + 1)) r t) (λ xs. yield (x ∷ xs)) = first h ∙ rw q in
        record {
          count = length-append seen (x ∷ []) ∙ ap (λ (k : ℕ). k + 1) G.count;
          within = omega arith;
          so_far = G.so_far ∙ ap then_rest z ∙ regroup (many (n - (i + 1)) r t) seen x;
        }

    pub going_stop : {f : Fault} → i < n → r rest ≡ fault f → many n r b ≡ fault f
    unfolding many ◌>>=◌ next then_rest
    going_stop {f} h q = let z : many (n - i) r rest ≡ fault f = first h ∙ rw q in G.so_far ∙ ap then_rest z

    pub going_all : n ≤ i → (many n r b ≡ got seen rest) × (length seen ≡ n)
    unfolding many yield next
    going_all h =
        let z : n - i ≡ 0 = omega arith in
        (G.so_far ∙ ap (λ (k : ℕ). next (many k r rest) (λ ys. yield (seen ++ ys))) z ∙ ap (λ (l : List A). got l rest) (append-nil seen), omega (arith, G.count, G.within))

-- what is read in the end begins with what is seen
pub going_prefix :
    {A : Type 0} (r : Reader A) (n : ℕ) (b : List ℕ) {rest : List ℕ} {i : ℕ} {seen : List A} → Going r n b rest i seen →
    {xs : List A} {t : List ℕ} → many n r b ≡ got xs t → (ys : List A) × (xs ≡ seen ++ ys)
going_prefix r n b {rest} {i} {seen} G h =
    let w = next_at (many (n - i) r rest) _ (sym G.so_far ∙ h) in
    (w.0, sym (yield_at w.1 w.3))

-- and has what was read next
pub going_has :
    {A : Type 0} (r : Reader A) (n : ℕ) (b : List ℕ) {rest : List ℕ} {i : ℕ} {seen : List A} → Going r n b rest i seen →
    i < n → {x : A} {u : List ℕ} → r rest ≡ got x u → {xs : List A} {t : List ℕ} → many n r b ≡ got xs t → Mem x xs
going_has r n b {seen = seen} G l {x} h e =
    let w = going_prefix r n b (going_more r n b G l h) e in
    subst (Mem x) (sym w.1) (append_left w.0 (append_right seen (here refl)))

-- of many that each take so many bytes, the place of each is known
module _ {A : Type 0} (r : Reader A) (size : ℕ) (d : A) where
  nth_place : (s u : List ℕ) (x : A) (ys : List A) (n i : ℕ) → i < suc n → r s ≡ got x u → u ≡ onward s size
      → ((j : ℕ) → j < n → r (onward u (j * size)) ≡ got (get_or ys j d) (onward u (j * size + size)))
      → r (onward s (i * size)) ≡ got (get_or (x ∷ ys) i d) (onward s (i * size + size))
  nth_place s u x ys n zero l e k f =
      rw (zero-mul size) (ap r (onward_all s) ∙ e ∙ ap (got x) (k ∙ ap (onward s) (let z : size ≡ 0 + size = omega arith in z)))
  nth_place s u x ys n (suc j) l e k f =
      let there : (m : ℕ) → onward s (m + size) ≡ onward u m = λ m.
      ap (onward s) (let z : m + size ≡ size + m = omega arith in z)
      ∙ sym (onward_onward s size m)
      ∙ ap (λ (t : List ℕ). onward t m) (sym k) in
      rw (suc-mul j size)
      (ap r (there (j * size)) ∙ f j (omega arith) ∙ ap (got (get_or ys j d)) (sym (there (j * size + size))))

  pub many_nth : ((s : List ℕ) (a : A) (t : List ℕ) → r s ≡ got a t → t ≡ onward s size)
      → (n : ℕ) (s : List ℕ) (xs : List A) (t : List ℕ) → many n r s ≡ got xs t → (i : ℕ) → i < n → r (onward s (i * size)) ≡ got (get_or xs i d) (onward s (i * size + size))
  unfolding many
  many_nth each zero s xs t h i l = absurd (omega arith)
  many_nth each (suc n) s xs t h i l =
      let a = bind_at r _ s h in
      let b = bind_at (many n r) _ a.1 a.3 in
      rw (yield_at b.1 b.3) at
      (nth_place s a.1 a.0 b.0 n i l a.2 (each s a.0 a.1 a.2) (λ j k. many_nth each n a.1 b.0 b.1 b.2 j k))
