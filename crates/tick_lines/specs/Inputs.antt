-- What the bytes of the input say: the ticks of the lines that have ended, and the line that is being read.
use Rattle.std.specs.Prelude.{◌≡◌, false, cond, List, [], ◌∷◌, ◌++◌, ℕ, ◌<◌, eqb, take, Some, None, Result, Ok, Err}
use Rattle.break_windows.specs.Breaks.{most_breaks, climbs}
use Rattle.tick_lines.specs.Lines.{Tick, with_byte, ended_tick}
use Rattle.tick_lines.specs.Rings.{Holds}
use Rattle.tick_lines.specs.declared.line.Line.{Line}
use Rattle.tick_lines.specs.declared.line.Line.TheVariants as Li
use Rattle.tick_lines.specs.declared.line.Stop.{Stop}
use Rattle.tick_lines.specs.declared.line.Stop.TheVariants as St
use Rattle.tick_lines.specs.declared.input.State.{State}
use Rattle.tick_lines.specs.declared.input.Stopped.{Stopped}

-- or that a line has no tick and is not blank
pub data Said : Type 0 where
  said : List ℕ → Line → Said
  unread : Said

-- a line ends
abbrev pub line_ended : List ℕ → Tick → Said
line_ended ts (Ok None) = said ts Li.Blank
line_ended ts (Ok (Some t)) = said (ts ++ (t ∷ [])) Li.Blank
line_ended ts (Err y) = unread

-- a byte more: a line feed, 10, ends a line
unfoldable pub byte_said : Said → ℕ → Said
byte_said (said ts l) b = cond (eqb b 10) (line_ended ts (ended_tick l)) (said ts (with_byte l b))
byte_said unread b = unread

unfoldable pub bytes_said : Said → List ℕ → Said
bytes_said a [] = a
bytes_said a (b ∷ s) = bytes_said (byte_said a b) s

-- why reading stops: at a line that is not read, at a tick that is smaller than the one before it, or at a window with more breaks
-- than it keeps ticks
abbrev pub Stops : ℕ → Said → Stop → Type 0
Stops w (said ts l) St.Bad = ⊥
Stops w (said ts l) St.Falls = climbs ts ≡ false
Stops w (said ts l) St.Full = 65536 < most_breaks w ts
Stops w unread St.Bad = Unit
Stops w unread St.Falls = ⊥
Stops w unread St.Full = ⊥

-- what is known where it goes on
abbrev pub GoesOn : ℕ → List ℕ → Said → State → Type 0
GoesOn w ring (said ts l) s = Holds w ring s.recent ts × (s.line ≡ l)
GoesOn w ring unread s = ⊥

-- what the code answers: it goes on, or it has stopped
abbrev pub ReadTo : ℕ → List ℕ → Said → Result State Stopped → Type 0
ReadTo w ring a (Ok s) = GoesOn w ring a s
ReadTo w ring a (Err e) = Stops w a e.why

-- the same of many bytes: all of them where it goes on, and some of them, from the first on, where it has stopped
abbrev pub TakenTo : ℕ → List ℕ → Said → List ℕ → Result State Stopped → Type 0
TakenTo w ring a s (Ok t) = GoesOn w ring (bytes_said a s) t
TakenTo w ring a s (Err e) = (k : ℕ) × Stops w (bytes_said a (take k s)) e.why
