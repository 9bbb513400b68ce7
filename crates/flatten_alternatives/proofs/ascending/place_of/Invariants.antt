use mathlib.Core.Path.{◌≡◌}
use mathlib.Core.Logic.{◌⊎◌}
use Prim.Native.Nat.{◌-◌, ◌≤◌, ◌<◌}
use lib.ListN.{get_or}
use Rattle.flatten_alternatives.proofs.ascending.place_of.Given as goal

abbrev pub invariant-loop-low : goal.invariant-loop-low
invariant-loop-low l = (l.low ≤ l.high) × (l.high ≤ l.count) × ((l.low ≡ 0) ⊎ (get_or l.items (l.low - 1) 0 < l.x)) × ((l.high ≡ l.count) ⊎ (l.x ≤ get_or l.items l.high 0))

abbrev pub decreases-loop-low : goal.decreases-loop-low
decreases-loop-low l = l.high - l.low
