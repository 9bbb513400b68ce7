-- Weft breaks in a window. The ticks of the breaks are a list in which none is smaller than the one before it; equal ticks
-- are as many breaks. A window of w ticks that begins at s has the ticks s, s + 1, .., s + w - 1: whole numbers, which are
-- not cut at 32 bits.
use Rattle.std.specs.Prelude.{ℕ, zero, suc, ◌+◌, max, ◌≡◌, Bool, true, cond, ◌&&◌, List, [], ◌∷◌, map, leb, ltb, eqb, length}
use Rattle.lists.specs.Lists.{keep}
use Rattle.reading.specs.Answer.{Answer, done, unless}
use Rattle.reading.specs.Verdict.{verdict_of, verdict_number, or_kept}
use Rattle.break_windows.specs.declared.window.Best.{Best}

-- a tick is in the window of w ticks that begins at s
unfoldable pub in_window : ℕ → ℕ → ℕ → Bool
in_window w s t = leb s t && ltb t (s + w)

-- how many breaks are in that window
unfoldable pub within : ℕ → List ℕ → ℕ → ℕ
within w ts s = length (keep (in_window w s) ts)

-- the greatest value of a function at 0, 1, .., n - 1, and 0 where n is 0
unfoldable pub greatest : (ℕ → ℕ) → ℕ → ℕ
greatest f zero = 0
greatest f (suc n) = max (greatest f n) (f n)

-- the greatest of some numbers, and 0 of none
unfoldable pub greatest_of : List ℕ → ℕ
greatest_of [] = 0
greatest_of (x ∷ xs) = max x (greatest_of xs)

-- the most breaks in any window of w ticks, wherever it begins. Those that begin after the last tick have none, so none of them
-- has more (`anywhere`)
unfoldable pub most_breaks : ℕ → List ℕ → ℕ
most_breaks w ts = greatest (within w ts) (suc (greatest_of ts))

-- the same over the windows that begin at a break; they suffice (`breaks_suffice`)
unfoldable pub most_at_breaks : ℕ → List ℕ → ℕ
most_at_breaks w ts = greatest_of (map (within w ts) ts)

-- the first number that a test holds of, and 0 where it holds of none
unfoldable pub first_of : (ℕ → Bool) → List ℕ → ℕ
first_of p [] = 0
first_of p (x ∷ xs) = cond (p x) x (first_of p xs)

-- of the windows that begin at a break and have n breaks: the first tick of the earliest
unfoldable pub first_with : ℕ → ℕ → List ℕ → ℕ
first_with n w ts = first_of (λ t. eqb (within w ts t) n) ts

-- no number is smaller than the one before it
unfoldable pub climbs : List ℕ → Bool
climbs [] = true
climbs (x ∷ []) = true
climbs (x ∷ y ∷ ys) = leb x y && climbs (y ∷ ys)

-- the most breaks in a window, and the first tick of the earliest window that has them and begins at a break
abbrev pub counted : ℕ → ℕ → Best
counted m f = record { count = m; first = f }

-- 29 where the window has no tick, also for an empty list, or where a tick is smaller than the one before it
unfoldable pub answered : ℕ → ℕ → List ℕ → Answer Best
answered m w ts = unless 29 (leb 1 w && climbs ts) (done (counted m (first_with m w ts)))

unfoldable pub busiest_of : ℕ → List ℕ → Answer Best
busiest_of w ts = answered (most_breaks w ts) w ts

-- the same, which can be computed
unfoldable pub busiest_at_breaks : ℕ → List ℕ → Answer Best
busiest_at_breaks w ts = answered (most_at_breaks w ts) w ts

-- what becomes of the two numbers that are lent for the answer, and the number that the call answers with
abbrev pub Tells : ℕ → ℕ → Answer Best → ℕ → ℕ → ℕ → Type 0
Tells count first a count' first' number = (number ≡ verdict_number (verdict_of a)) × (counted count' first' ≡ or_kept (counted count first) a)
