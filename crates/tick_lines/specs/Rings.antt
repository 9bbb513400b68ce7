-- The ticks that come one by one: the last 65,536 are kept in a ring.
use Rattle.std.specs.Prelude.{◌≡◌, false, cond, List, ℕ, ◌+◌, ◌-◌, ◌≤◌, ◌<◌, min, leb, ltb, length, get_or, Result, Ok, Err}
use Rattle.break_windows.specs.Breaks.{most_breaks, climbs}
use Rattle.break_windows.specs.Found.{at, Found}
use Rattle.tick_lines.specs.declared.recent.Recent.{Recent}
use Rattle.tick_lines.specs.declared.line.Stop.{Stop}
use Rattle.tick_lines.specs.declared.line.Stop.TheVariants as St

-- the place of the tick that was put k ticks ago, where the next is put at n
abbrev pub place_of : ℕ → ℕ → ℕ
place_of n k = cond (leb k n) (n - k) (n + 65536 - k)

-- the place after one
abbrev pub next_place : ℕ → ℕ
next_place n = cond (ltb n 65535) (n + 1) 0

-- a ring holds the last ticks of a list, `held` of them; the next is put at n
pub record Ring (ring : List ℕ) (n held : ℕ) (ts : List ℕ) : Type 0 where
  pub room : length ring ≡ 65536
  pub inside : n < 65536
  pub some : held ≡ min (length ts) 65536
  pub kept : (k : ℕ) → 1 ≤ k → k ≤ held → get_or ring (place_of n k) 0 ≡ at ts (length ts - k)

-- and the pass over the list has found so many breaks, from that tick on
pub record Holds (w : ℕ) (ring : List ℕ) (r : Recent) (ts : List ℕ) : Type 0 where
  pub ticks : Ring ring r.next r.held ts
  pub least : r.count ≤ 65536
  pub none : length ts ≡ 0 → (r.count ≡ 0) × (r.first ≡ 0)
  pub found : 1 ≤ length ts → Found w ts (length ts) r.count r.first

-- what adding the last tick of a list answers
abbrev pub AddedTo : ℕ → List ℕ → List ℕ → Result Recent Stop → Type 0
AddedTo w ring ts (Ok r) = Holds w ring r ts
AddedTo w ring ts (Err St.Falls) = climbs ts ≡ false
AddedTo w ring ts (Err St.Full) = 65536 < most_breaks w ts
AddedTo w ring ts (Err St.Bad) = ⊥

-- before the first tick
abbrev pub no_ticks : Recent
no_ticks = record { next = 0; held = 0; count = 0; first = 0 }
