-- The input: what is known after a tick, a line and more bytes.
use mathlib.Core.Path.{◌≡◌, refl, sym, ap, ◌∙◌, subst}
use mathlib.Core.Bool.{Bool, true, false, cond}
use mathlib.Core.List.{List, [], ◌∷◌, ◌++◌}
use Prim.Native.Nat.{ℕ, ◌+◌, ◌≤◌, ◌<◌}
use native.Mathlib.Numerals.{add-one}
use borrow.Author.Tests.{eq-eqb, ne_eqb}
use lib.ListN.{length, get_or, take}
use lib.Seq.{take-suc, take_all}
use lib.Dec.{leb}
use Rattle.std.specs.Prelude.{Some, Result, Ok, Err}
use Rattle.lists.proofs.Bools.{cond_yes, cond_no}
use Rattle.tick_lines.specs.Lines.{with_byte, tick_of_number, ended_tick}
use Rattle.tick_lines.specs.Rings.{Holds, AddedTo}
use Rattle.tick_lines.specs.Inputs.{Said, said, unread, line_ended, byte_said, bytes_said, Stops, GoesOn, ReadTo}
use Rattle.tick_lines.specs.declared.line.Line.{Line}
use Rattle.tick_lines.specs.declared.line.Line.TheVariants as Li
use Rattle.tick_lines.specs.declared.line.Stop.{Stop}
use Rattle.tick_lines.specs.declared.line.Stop.TheVariants as St
use Rattle.tick_lines.specs.declared.input.State.{State}
use Rattle.tick_lines.specs.declared.input.Stopped.{Stopped}

-- where adding a tick stops, reading stops
pub added_stops : (w : ℕ) (ring ts : List ℕ) (l : Line) (y : Stop) → AddedTo w ring ts (Err y) → Stops w (said ts l) y
added_stops w ring ts l St.Bad A = A
added_stops w ring ts l St.Falls A = A
added_stops w ring ts l St.Full A = A

-- a line that has no tick and is not blank is not read
unread_tick : (w : ℕ) (y : Stop) → y ≡ St.Bad → Stops w unread y
unread_tick w y e = subst (Stops w unread) (sym e) tt

unread_number : (n : ℕ) (y : Stop) → tick_of_number n ≡ Err y → y ≡ St.Bad
unfolding tick_of_number
unread_number n y e = go (leb n 4294967295) e
  where
    go : (b : Bool) → cond b (Ok (Some n)) (Err St.Bad) ≡ Err y → y ≡ St.Bad
    go true h = cc
    go false h = cc

pub unread_stops : (w : ℕ) (l : Line) (y : Stop) → ended_tick l ≡ Err y → Stops w unread y
unfolding ended_tick
unread_stops w Li.Blank y e = cc
unread_stops w (Li.Digits n) y e = unread_tick w y (unread_number n y e)
unread_stops w (Li.Ended n) y e = unread_tick w y (unread_number n y e)
unread_stops w Li.Bad y e = unread_tick w y cc

-- bytes one after the other
said_more : (a : Said) (s : List ℕ) (b : ℕ) → bytes_said a (s ++ (b ∷ [])) ≡ byte_said (bytes_said a s) b
unfolding bytes_said
said_more a [] b = refl
said_more a (x ∷ s) b = said_more (byte_said a x) s b

said_next : (a : Said) (s : List ℕ) (i : ℕ) → i < length s → bytes_said a (take (i + 1) s) ≡ byte_said (bytes_said a (take i s)) (get_or s i 0)
said_next a s i h = ap (bytes_said a) (rw add-one (take-suc s i 0 h)) ∙ said_more a (take i s) (get_or s i 0)

-- where reading goes on, the ring holds some ticks
pub on_holds : (w : ℕ) (ring : List ℕ) (a : Said) (s : State) → GoesOn w ring a s → (ts : List ℕ) × Holds w ring s.recent ts
on_holds w ring (said ts l) s R = (ts, R.0)
on_holds w ring unread s R = absurd R

-- a byte
pub feed_said : (ts : List ℕ) (l : Line) (b : ℕ) → b ≡ 10 → byte_said (said ts l) b ≡ line_ended ts (ended_tick l)
unfolding byte_said
feed_said ts l b e = cond_yes (line_ended ts (ended_tick l)) _ (eq-eqb b 10 e)

pub other_said : (ts : List ℕ) (l : Line) (b : ℕ) → (b ≡ 10 → ⊥) → byte_said (said ts l) b ≡ said ts (with_byte l b)
unfolding byte_said
other_said ts l b e = cond_no _ (said ts (with_byte l b)) (ne_eqb b 10 e)

-- a byte more
pub read_more :
    (w : ℕ) (ring ring' : List ℕ) (a : Said) (s : State) (b : ℕ) (r : Result State Stopped) → GoesOn w ring a s →
    ((ts : List ℕ) → Holds w ring s.recent ts → ReadTo w ring' (byte_said (said ts s.line) b) r) → ReadTo w ring' (byte_said a b) r
read_more w ring ring' (said ts l) s b r R f = subst (λ (k : Line). ReadTo w ring' (byte_said (said ts k) b) r) R.1 (f ts R.0)
read_more w ring ring' unread s b r R f = absurd R

-- a byte of many
pub read_next :
    (w : ℕ) (ring ring' : List ℕ) (a : Said) (s : State) (bytes : List ℕ) (i : ℕ) (r : Result State Stopped) → i < length bytes → GoesOn w ring (bytes_said a (take i bytes)) s →
    ((ts : List ℕ) → Holds w ring s.recent ts → ReadTo w ring' (byte_said (said ts s.line) (get_or bytes i 0)) r) → ReadTo w ring' (bytes_said a (take (i + 1) bytes)) r
read_next w ring ring' a s bytes i r h R f = rw (said_next a bytes i h) (read_more w ring ring' (bytes_said a (take i bytes)) s (get_or bytes i 0) r R f)

pub taken_all_lem : (w : ℕ) (ring : List ℕ) (a : Said) (s : State) (bytes : List ℕ) (i : ℕ) → length bytes ≤ i → GoesOn w ring (bytes_said a (take i bytes)) s → GoesOn w ring (bytes_said a bytes) s
taken_all_lem w ring a s bytes i h R = subst (λ (l : List ℕ). GoesOn w ring (bytes_said a l) s) (take_all i bytes h) R
