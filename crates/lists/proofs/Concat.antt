-- Lists that are put one after the other.
use mathlib.Core.Path.{◌≡◌, refl, sym, ap, ◌∙◌, subst}
use mathlib.Core.Logic.{⊎_elim, ◌≢◌}
use mathlib.Core.List.Memᴰ.{head as here}
use mathlib.Core.List.{List, [], ◌∷◌, ◌++◌, map, append_assoc, append-nil, Memᴰ as Mem}
use mathlib.Core.List.Memᴰ.{append_cases}
use mathlib.Core.List.Memᴰ.{not-nil}
use mathlib.Core.List.Memᴰ.{tail as there}
use mathlib.Core.List.Memᴰ.{append_left}
use mathlib.Core.List.Memᴰ.{append_right}
use mathlib.Core.List.Memᴰ.{cast}
use Prim.Native.Nat.{ℕ, ◌+◌, ◌*◌, ◌≤◌, ◌<◌}
use native.Mathlib.Omega.{arith}
use native.Mathlib.Nat.{suc-mul, zero-mul}
use lib.ListN.{length, length-append, get_or, take}
use Rattle.lists.specs.Lists.{concat, keep}
use Rattle.lists.proofs.Once.{Once}
use mathlib.Core.Bool.{Bool, true, false, cond}
use native.Mathlib.Numerals.{add-one}
use lib.Seq.{take-suc}

-- concat: an element of the list of some element
module _ {A B : Type 0} (f : A → List B) where
  pub concat_by : {x : A} {xs : List A} {y : B} → Mem x xs → Mem y (f x) → Mem y (concat f xs)
  unfolding concat
  concat_by {xs = z ∷ zs} {y} (here e) m = append_left (concat f zs) (subst (λ (w : A). Mem y (f w)) e m)
  concat_by {xs = z ∷ zs} (there n) m = append_right (f z) (concat_by n m)
  concat_by {xs = []} n m = elim n [ ]

  pub concat_at : (xs : List A) {y : B} → Mem y (concat f xs) → (x : A) × Mem x xs × Mem y (f x)
  unfolding concat
  concat_at [] m = absurd (not-nil m)
  concat_at (x ∷ xs) m = ⊎_elim (λ n. (x, here refl, n)) (λ n. let r = concat_at xs n in (r.0, there r.1, r.2)) (append_cases (f x) m)

pub concat_same : {A B : Type 0} (f g : A → List B) (xs : List A) → ((x : A) → Mem x xs → f x ≡ g x) → concat f xs ≡ concat g xs
unfolding concat
concat_same f g [] h = refl
concat_same f g (x ∷ xs) h = λ i. h x (here refl) i ++ concat_same f g xs (λ y m. h y (there m)) i

pub concat_length : {A B : Type 0} (f : A → List B) (k : ℕ) (xs : List A) → ((x : A) → Mem x xs → length (f x) ≤ k) → length (concat f xs) ≤ length xs * k
unfolding concat
concat_length f k [] h = omega arith
concat_length f k (x ∷ xs) h = rw (length-append (f x) (concat f xs), suc-mul (length xs) k) (omega (arith, h x (here refl), concat_length f k xs (λ y m. h y (there m))))

-- lists one after the other
pub concat_append : {A B : Type 0} (f : A → List B) (xs ys : List A) → concat f (xs ++ ys) ≡ concat f xs ++ concat f ys
unfolding concat
concat_append f [] ys = refl
concat_append f (x ∷ xs) ys = ap (λ l. f x ++ l) (concat_append f xs ys) ∙ sym (append_assoc (f x) (concat f xs) (concat f ys))

pub concat_map : {A B C : Type 0} (f : B → List C) (g : A → B) (xs : List A) → concat f (map g xs) ≡ concat (λ x. f (g x)) xs
unfolding concat
concat_map f g [] = refl
concat_map f g (x ∷ xs) = ap (λ (l : List _). f (g x) ++ l) (concat_map f g xs)

pub concat_none : {A B : Type 0} (f : A → List B) (xs : List A) → ((x : A) → Mem x xs → f x ≡ []) → concat f xs ≡ []
unfolding concat
concat_none f [] h = refl
concat_none f (x ∷ xs) h = rw (h x (here refl)) (concat_none f xs (λ y m. h y (there m)))

-- of lists one after the other, where only that of x has elements
pub concat_one : {A B : Type 0} (f : A → List B) (xs : List A) → Once xs → (x : A) → Mem x xs → ((y : A) → Mem y xs → y ≢ x → f y ≡ []) → concat f xs ≡ f x
unfolding concat
concat_one f (z ∷ zs) o x (here e) h =
    rw (concat_none f zs (λ y m. h y (there m) (λ q. o.0 (cast (sym (q ∙ e)) m))), e) (append-nil (f z))
concat_one f (z ∷ zs) o x (there m) h = rw (h z (here refl) (λ q. o.0 (cast q m))) (concat_one f zs o.1 x m (λ y n. h y (there n)))
concat_one f [] o x m h = elim m [ ]

-- of one element
pub concat_single : {A B : Type 0} (f : A → List B) (x : A) → concat f (x ∷ []) ≡ f x
unfolding concat
concat_single f x = append-nil (f x)

-- the edges of the elements that pass a test
pub map_kept : {A B : Type 0} (p : A → Bool) (f : A → B) (xs : List A) → concat (λ x. cond (p x) (f x ∷ []) []) xs ≡ map f (keep p xs)
unfolding concat keep
map_kept p f [] = refl
map_kept p f (x ∷ xs) = go (p x) (map_kept p f xs)
  where
    go : (b : Bool) → concat (λ x. cond (p x) (f x ∷ []) []) xs ≡ map f (keep p xs) → cond b (f x ∷ []) [] ++ concat (λ x. cond (p x) (f x ∷ []) []) xs ≡ map f (cond b (x ∷ keep p xs) (keep p xs))
    go true e = ap (λ l. f x ∷ l) e
    go false e = e

pub concat_kept : {A B : Type 0} (p : A → Bool) (f : A → List B) (xs : List A) → concat (λ x. cond (p x) (f x) []) xs ≡ concat f (keep p xs)
unfolding concat keep
concat_kept p f [] = refl
concat_kept p f (x ∷ xs) = go (p x) (concat_kept p f xs)
  where
    go : (b : Bool) → concat (λ x. cond (p x) (f x) []) xs ≡ concat f (keep p xs) → cond b (f x) [] ++ concat (λ x. cond (p x) (f x) []) xs ≡ concat f (cond b (x ∷ keep p xs) (keep p xs))
    go true e = ap (λ l. f x ++ l) e
    go false e = e

-- lists one after the other
pub concat_concat : {A B C : Type 0} (f : B → List C) (g : A → List B) (xs : List A) → concat f (concat g xs) ≡ concat (λ x. concat f (g x)) xs
unfolding concat
concat_concat f g [] = refl
concat_concat f g (x ∷ xs) = concat_append f (g x) (concat g xs) ∙ ap (λ l. concat f (g x) ++ l) (concat_concat f g xs)

pub map_ones : {A B : Type 0} (f : A → B) (xs : List A) → concat (λ x. f x ∷ []) xs ≡ map f xs
unfolding concat
map_ones f [] = refl
map_ones f (x ∷ xs) = ap (λ l. f x ∷ l) (map_ones f xs)

pub concat_more : {A B : Type 0} (f : A → List B) (xs : List A) (i : ℕ) (d : A) → i < length xs → concat f (take (i + 1) xs) ≡ concat f (take i xs) ++ f (get_or xs i d)
unfolding concat
concat_more f xs i d h =
    rw (add-one, take-suc xs i d h) (concat_append f (take i xs) (get_or xs i d ∷ []) ∙ ap (λ l. concat f (take i xs) ++ l) (append-nil (f (get_or xs i d))))

-- lengths
pub concat_size : {A : Type 0} (f : A → List ℕ) (k : ℕ) (xs : List A) → ((x : A) → Mem x xs → length (f x) ≡ k) → length (concat f xs) ≡ length xs * k
unfolding concat
concat_size f k [] h = sym (zero-mul k)
concat_size f k (x ∷ xs) h = length-append (f x) (concat f xs) ∙ omega (arith, h x (here refl), concat_size f k xs (λ y m. h y (there m)), suc-mul (length xs) k)
