-- Lists and sets of small numbers, as far as the definitions need them.
use Rattle.std.specs.Prelude.{ℕ, zero, suc, ◌+◌, ◌*◌, ◌-◌, ◌/◌, ◌%◌, ◌^◌, Bool, true, false, cond, not, ◌&&◌, ◌||◌, List, [], ◌∷◌, ◌++◌, ltb, eqb, length, replicate}

-- the number i is in the set whose bits are m
unfoldable pub has : ℕ → ℕ → Bool
has m i = eqb (m / 2 ^ i % 2) 1

-- from, from + 1, .., n of them
unfoldable pub range : ℕ → ℕ → List ℕ
range from zero = []
range from (suc n) = from ∷ range (suc from) n

-- 0, 1, .., n - 1
unfoldable pub below : ℕ → List ℕ
unfolding range
below n = range zero n

unfoldable pub keep : {A : Type 0} → (A → Bool) → List A → List A
keep p [] = []
keep p (x ∷ xs) = cond (p x) (x ∷ keep p xs) (keep p xs)

unfoldable pub all : {A : Type 0} → (A → Bool) → List A → Bool
all p [] = true
all p (x ∷ xs) = p x && all p xs

unfoldable pub any : {A : Type 0} → (A → Bool) → List A → Bool
any p [] = false
any p (x ∷ xs) = p x || any p xs

unfoldable pub elem : ℕ → List ℕ → Bool
unfolding any
elem n xs = any (λ x. eqb x n) xs

unfoldable pub concat : {A B : Type 0} → (A → List B) → List A → List B
concat f [] = []
concat f (x ∷ xs) = f x ++ concat f xs

-- the bits i of 0, .., n - 1 for which p holds, as a number
unfoldable pub bits_from : (ℕ → Bool) → ℕ → ℕ → ℕ
bits_from p i zero = 0
bits_from p i (suc n) = cond (p i) 1 0 + 2 * bits_from p (suc i) n

unfoldable pub bits_of : (ℕ → Bool) → ℕ → ℕ
unfolding bits_from
bits_of p n = bits_from p 0 n

-- strictly ascending
unfoldable pub ascending : List ℕ → Bool
ascending [] = true
ascending (x ∷ []) = true
ascending (x ∷ y ∷ r) = ltb x y && ascending (y ∷ r)

unfoldable pub implies : Bool → Bool → Bool
implies a b = not a || b

-- how many elements stand before the first that a test holds of
unfoldable pub position : {A : Type 0} → (A → Bool) → List A → ℕ
position p [] = 0
position p (x ∷ xs) = cond (p x) 0 (suc (position p xs))

-- the list, and d after it up to n elements: what an array of n holds
unfoldable pub padded : {A : Type 0} → ℕ → A → List A → List A
padded n d l = l ++ replicate (n - length l) d

-- each of the first w numbers that is in the set a is in the set b
unfoldable pub subset : ℕ → ℕ → ℕ → Bool
subset w a b = all (λ i. implies (has a i) (has b i)) (below w)

-- no number stands twice
unfoldable pub distinct : List ℕ → Bool
distinct [] = true
distinct (x ∷ xs) = not (elem x xs) && distinct xs
