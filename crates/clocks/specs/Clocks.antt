-- Clocks and bounds. A row has a bound for each of eight clocks; 2 ^ 32 - 1 is no bound.
use Rattle.std.specs.Prelude.{ℕ, zero, suc, ◌+◌, ◌-◌, min, Bool, true, false, cond, ◌&&◌, ◌||◌, leb, eqb, get_or, replicate, drop, ℤ, pos, negsuc, Option, Some, None, is_some}
use mathlib.Core.List.{List, [], ◌∷◌, ◌++◌, zip_with}
use Rattle.lists.specs.Lists.{has, all, below}
use Rattle.reading.specs.Reading.{Reader, byte4, such, many, ◌>>=◌, yield}

abbrev pub clock_limit : ℕ
clock_limit = 2147483647

abbrev pub no_bound : ℕ
no_bound = 4294967295

abbrev pub free : List ℕ
free = replicate 8 no_bound

-- the least per clock
unfoldable pub join : List ℕ → List ℕ → List ℕ
unfolding zip_with
join a b = zip_with min a b

-- tables of rows, joined row by row
unfoldable pub join_tables : List (List ℕ) → List (List ℕ) → List (List ℕ)
join_tables a b = zip_with join a b

-- so many ticks left, where what is tested is kept
abbrev pub left_where : Bool → ℕ → Option ℕ
left_where true n = Some n
left_where false n = None

-- the test of a bound: the ticks left before the clock passes it or the limit, and none where it is broken. So no bound
-- leaves what the limit leaves
unfoldable pub ticks_left : ℕ → ℕ → Option ℕ
ticks_left b c = left_where (leb c b) (min b clock_limit - c)

abbrev pub is_kept : Option ℕ → Bool
is_kept left = is_some left

-- each clock is at most its bound
unfoldable pub keeps : List ℕ → List ℕ → Bool
keeps [] cs = true
keeps (b ∷ bs) [] = true
keeps (b ∷ bs) (c ∷ cs) = is_kept (ticks_left b c) && keeps bs cs

-- of the ticks left under a bound and m others the fewest; a broken bound leaves none
abbrev pub fewest : Option ℕ → ℕ → ℕ
fewest (Some n) m = min n m
fewest None m = 0

-- the ticks left for the first n clocks under the bounds of a row, and m at most
unfoldable pub row_left : ℕ → List ℕ → List ℕ → ℕ → ℕ
row_left zero bs cs m = m
row_left (suc n) [] cs m = m
row_left (suc n) (b ∷ bs) [] m = m
row_left (suc n) (b ∷ bs) (c ∷ cs) m = row_left n bs cs (fewest (ticks_left b c) m)

-- the greatest number of ticks that a wait can name
abbrev pub all_ticks : ℕ
all_ticks = 4294967295

-- the ticks left for the first n clocks where there is no bound: to the limit, or, without a clock, all
unfoldable pub limit_left : ℕ → List ℕ → ℕ
limit_left n cs = row_left n free cs all_ticks

abbrev pub is_bound : ℕ → Bool
is_bound b = leb b clock_limit || eqb b no_bound

-- the bounds of a record with so many clocks, as a row of eight
unfoldable pub row : ℕ → Reader (List ℕ)
row n = many n (such byte4 is_bound) >>= λ bs. yield (bs ++ replicate (8 - n) no_bound)

-- the clocks whose bits are in m at 0
unfoldable pub reset_from : ℕ → ℕ → List ℕ → List ℕ
reset_from m i [] = []
reset_from m i (c ∷ cs) = cond (has m i) 0 c ∷ reset_from m (suc i) cs

unfoldable pub reset : ℕ → List ℕ → List ℕ
unfolding reset_from
reset m cs = reset_from m 0 cs

-- the first n clocks later by d ticks
unfoldable pub later : ℕ → ℕ → List ℕ → List ℕ
later zero d cs = cs
later (suc n) d [] = []
later (suc n) d (c ∷ cs) = (c + d) ∷ later n d cs

-- the first n clocks are within the limit
unfoldable pub in_limit : ℕ → List ℕ → Bool
in_limit n cs = all (λ i. leb (get_or cs i 0) clock_limit) (below n)

-- what is past the first n is 0
unfoldable pub zero_past : ℕ → List ℕ → Bool
zero_past n xs = all (λ x. eqb x 0) (drop n xs)

unfoldable pub is_zero : ℤ → Bool
is_zero (pos n) = eqb n 0
is_zero (negsuc n) = false

-- what is past the first n variables is 0
unfoldable pub zeros_past : ℕ → List ℤ → Bool
zeros_past n vs = all is_zero (drop n vs)
