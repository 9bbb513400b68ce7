-- What a pass over the ticks has found on its way.
use Rattle.std.specs.Prelude.{ℕ, suc, ◌+◌, ◌-◌, ◌≤◌, ◌<◌, ◌≡◌, true, List, length, get_or}
use Rattle.break_windows.specs.Breaks.{in_window}

-- the tick at a place
abbrev pub at : List ℕ → ℕ → ℕ
at ts i = get_or ts i 0

-- no tick before place n is smaller than the one before it
abbrev pub Climbs : List ℕ → ℕ → Type 0
Climbs ts n = (i : ℕ) → suc i < n → at ts i ≤ at ts (suc i)

-- none of the windows of w ticks within the first n has more than m breaks
pub record Bounded (w : ℕ) (ts : List ℕ) (n m : ℕ) : Type 0 where
  pub climb : Climbs ts n
  pub reach : m ≤ n
  pub fewer : (i : ℕ) → i + m < n → at ts i + w ≤ at ts (i + m)

-- and m is the most breaks of one, f the first tick of the earliest window with so many
pub record Found (w : ℕ) (ts : List ℕ) (n m f : ℕ) : Type 0 where
  pub bound : Bounded w ts n m
  -- the window begins at the break at place `start`, and has m breaks
  pub start : ℕ
  pub some : 1 ≤ m
  pub passed : start + m ≤ n
  pub begins : at ts start ≡ f
  pub fits : at ts (start + (m - 1)) < f + w
  -- none that begins earlier has as many
  pub earliest : (i : ℕ) → i < start → at ts i + w ≤ at ts (i + (m - 1))

-- the same, where windows of up to c breaks are passed over
pub record Sought (w : ℕ) (ts : List ℕ) (n c m f : ℕ) : Type 0 where
  pub bounded : Bounded w ts n m
  pub some : 1 ≤ m
  pub least : c ≤ m
  pub found : c < m → Found w ts n m f

-- some window has m breaks, the last of them before place e
abbrev pub Reaches : ℕ → List ℕ → ℕ → Type 0
Reaches w ts m = (1 ≤ m) × ((e : ℕ) × (m ≤ e) × (e ≤ length ts) × (in_window w (at ts (e - m)) (at ts (e - 1)) ≡ true))
