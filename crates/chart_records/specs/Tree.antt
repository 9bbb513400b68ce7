-- The tree of states. A parent's number is smaller than its child's.
use Rattle.std.specs.Prelude.{ℕ, zero, suc, Bool, cond, not, ◌&&◌, List, [], ◌∷◌, eqb}
use Rattle.lists.specs.Lists.{has, all, any, keep, implies, elem}
use Rattle.chart_records.specs.Chart.{Chart, state_at, states, parent_of, basic, sequential, parallel}

-- s and the states above it, up to the root, at most n of them
unfoldable pub up_from : ℕ → Chart → ℕ → List ℕ
up_from zero c s = []
up_from (suc n) c s = s ∷ cond (eqb s 0) [] (up_from n c (parent_of c s))

unfoldable pub path : Chart → ℕ → List ℕ
path c s = up_from (suc s) c s

-- s is m, or lies below it
unfoldable pub under : Chart → ℕ → ℕ → Bool
under c m s = elem m (path c s)

-- s is a child of m
abbrev pub is_child : Chart → ℕ → ℕ → Bool
is_child c m s = not (eqb s 0) && eqb (parent_of c s) m

unfoldable pub children : Chart → ℕ → List ℕ
children c m = keep (is_child c m) (states c)

unfoldable pub sequentials : Chart → List ℕ
sequentials c = keep (sequential c) (states c)

-- s is not sequential, nor is any state below it: with s always the same states are active
unfoldable pub fixed : Chart → ℕ → Bool
fixed c s = not (any (under c s) (sequentials c))

-- a parallel state with no sequential state below it
unfoldable pub plain : Chart → ℕ → Bool
plain c s = parallel c s && fixed c s

-- the children of a parallel state that are basic or plain
unfoldable pub sensors : Chart → ℕ → List ℕ
sensors c s = cond (parallel c s) (keep (fixed c) (children c s)) []

-- all basic states at or below s are marked with the exit e
unfoldable pub shares : Chart → ℕ → ℕ → Bool
shares c e s = all (λ b. implies (basic c b && under c s b) (has (state_at c b).exits e)) (states c)

-- s is one of the states that are entered with d by e: d itself where it is basic (e is 255), and else each state from d
-- down that is marked with e, as are those between
unfoldable pub entered : Chart → ℕ → ℕ → ℕ → Bool
entered c d e s =
    cond (eqb e 255) (eqb s d)
    (under c d s && all (λ p. implies (under c d p) (has (state_at c p).entries e)) (path c s))
