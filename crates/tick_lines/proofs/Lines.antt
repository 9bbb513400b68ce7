-- Lines, byte by byte.
use mathlib.Core.Path.{◌≡◌, refl, sym}
use mathlib.Core.Bool.{true, false, cond}
use Prim.Native.Nat.{ℕ, ◌-◌, ◌≤◌, ◌<◌}
use borrow.Author.Tests.{le-leb, lt-leb}
use Rattle.std.specs.Prelude.{Some, None, Ok, Err}
use Rattle.lists.proofs.Bools.{cond_yes, cond_no}
use Rattle.console.specs.Script.{is_space, is_digit}
use Rattle.console.specs.Places.{with_digit}
use Rattle.tick_lines.specs.Lines.{with_byte, tick_of_number, ended_tick}
use Rattle.tick_lines.specs.declared.line.Line.{Line}
use Rattle.tick_lines.specs.declared.line.Line.TheVariants as Li
use Rattle.tick_lines.specs.declared.line.Stop.TheVariants as St

-- a byte more
pub blank_digit : {l : Line} (b : ℕ) → l ≡ Li.Blank → is_digit b ≡ true → Li.Digits (with_digit 0 (b - 48)) ≡ with_byte l b
unfolding with_byte
blank_digit b e h = rw e (sym (cond_yes (Li.Digits (with_digit 0 (b - 48))) _ h))

pub blank_other : {l : Line} (b : ℕ) → l ≡ Li.Blank → is_digit b ≡ false → cond (is_space b) Li.Blank Li.Bad ≡ with_byte l b
unfolding with_byte
blank_other b e h = rw e (sym (cond_no _ (cond (is_space b) Li.Blank Li.Bad) h))

pub digits_digit : {l : Line} {n : ℕ} (b : ℕ) → l ≡ Li.Digits n → is_digit b ≡ true → Li.Digits (with_digit n (b - 48)) ≡ with_byte l b
unfolding with_byte
digits_digit {n = n} b e h = rw e (sym (cond_yes (Li.Digits (with_digit n (b - 48))) _ h))

pub digits_other : {l : Line} {n : ℕ} (b : ℕ) → l ≡ Li.Digits n → is_digit b ≡ false → cond (is_space b) (Li.Ended n) Li.Bad ≡ with_byte l b
unfolding with_byte
digits_other {n = n} b e h = rw e (sym (cond_no _ (cond (is_space b) (Li.Ended n) Li.Bad) h))

pub ended_byte : {l : Line} {n : ℕ} (b : ℕ) → l ≡ Li.Ended n → cond (is_space b) (Li.Ended n) Li.Bad ≡ with_byte l b
unfolding with_byte
ended_byte b e = rw e refl

pub bad_byte : {l : Line} (b : ℕ) → l ≡ Li.Bad → Li.Bad ≡ with_byte l b
unfolding with_byte
bad_byte b e = rw e refl

-- the end of a line
pub number_tick : (n : ℕ) → n ≤ 4294967295 → Ok (Some n) ≡ tick_of_number n
unfolding tick_of_number
number_tick n h = sym (cond_yes _ _ (le-leb n 4294967295 h))

pub number_bad : (n : ℕ) → 4294967295 < n → Err St.Bad ≡ tick_of_number n
unfolding tick_of_number
number_bad n h = sym (cond_no _ _ (lt-leb n 4294967295 h))

pub ended_blank : {l : Line} → l ≡ Li.Blank → Ok None ≡ ended_tick l
unfolding ended_tick
ended_blank e = rw e refl

pub ended_digits : {l : Line} {n : ℕ} → l ≡ Li.Digits n → tick_of_number n ≡ ended_tick l
unfolding ended_tick
ended_digits e = rw e refl

pub ended_ended : {l : Line} {n : ℕ} → l ≡ Li.Ended n → tick_of_number n ≡ ended_tick l
unfolding ended_tick
ended_ended e = rw e refl

pub ended_bad : {l : Line} → l ≡ Li.Bad → Err St.Bad ≡ ended_tick l
unfolding ended_tick
ended_bad e = rw e refl
