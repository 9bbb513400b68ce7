-- What the functions of the pass answer.
use Rattle.std.specs.Prelude.{ℕ, ◌+◌, ◌-◌, ◌≡◌, Bool, true, false, cond, ◌&&◌, List, leb, ltb, eqb, length, Option, Some, None}
use Rattle.lists.specs.Lists.{all, below}
use Rattle.break_windows.specs.Breaks.{counted, climbs}
use Rattle.break_windows.specs.Found.{at, Climbs, Found, Sought}
use Rattle.break_windows.specs.declared.window.Best.{Best}

-- what a pass up to place n has found, or that the list falls
abbrev pub PassedTo : ℕ → List ℕ → ℕ → ℕ → Option Best → Type 0
PassedTo w ts n c (Some b) = Sought w ts n c b.count b.first
PassedTo w ts n c None = climbs ts ≡ false

-- what a pass over all ticks has found
abbrev pub PassedAll : ℕ → List ℕ → Option Best → Type 0
PassedAll w ts (Some b) = Found w ts (length ts) b.count b.first
PassedAll w ts None = climbs ts ≡ false

-- what a pass begins with, where some window has m breaks and t is the first tick: windows of up to m - 1 breaks are passed over
abbrev pub first_best : ℕ → ℕ → Best
first_best t m = cond (eqb m 1) (counted 1 t) (counted (m - 1) 0)

-- what a test of the order of the first n ticks answers
abbrev pub OrderedTo : List ℕ → ℕ → Bool → Type 0
OrderedTo ts n true = Climbs ts n
OrderedTo ts n false = climbs ts ≡ false

-- the tick at a place is not smaller than the one before it
abbrev pub climbs_at : List ℕ → ℕ → Bool
climbs_at ts i = leb (at ts (i - 1)) (at ts i)

-- none of the 32 ticks from a place on is
unfoldable pub block_climbs : List ℕ → ℕ → Bool
block_climbs ts from = all (λ k. climbs_at ts (from + k)) (below 32)

-- how far a tick is from another that is not greater; from a greater one it is the difference, cut at 32 bits
abbrev pub apart : ℕ → ℕ → ℕ
apart s t = cond (ltb t s) (t + (4294967295 - s) + 1) (t - s)

-- the tick at a place is not smaller than the one before it, and w or more from the one m places before it
abbrev pub quiet_at : ℕ → ℕ → List ℕ → ℕ → Bool
quiet_at w m ts i = climbs_at ts i && leb w (apart (at ts (i - m)) (at ts i))

-- so is each of the 32 ticks from a place on
unfoldable pub block_quiet : ℕ → ℕ → List ℕ → ℕ → Bool
block_quiet w m ts from = all (λ k. quiet_at w m ts (from + k)) (below 32)

-- 32 breaks more where the ticks climb
abbrev pub grown_where : Bool → ℕ → ℕ → Option Best
grown_where true m s = Some (counted (m + 32) s)
grown_where false m s = None
