-- The tick of a line: read byte by byte it is what the line's words say, in an input too.
use mathlib.Core.Path.{◌≡◌, refl, sym, ap, ◌∙◌}
use mathlib.Core.Bool.{Bool, true, false, cond}
use mathlib.Core.Logic.{inl, inr, ⊎_elim}
use mathlib.Core.List.{List, [], ◌∷◌, ◌++◌}
use Prim.Native.Nat.{ℕ, ◌-◌}
use native.Mathlib.Omega.{arith}
use borrow.Author.Tests.{le-leb, lt-leb, eqb-false}
use lib.Dec.{eqb}
use lib.ListN.{length}
use Rattle.std.specs.Prelude.{Some, Ok, Err}
use Rattle.lists.specs.Lists.{all, any, elem}
use Rattle.lists.proofs.Bools.{both, clash, decided, cond_no, neither_l, neither_r}
use Rattle.lists.proofs.Lists.{all_more}
use Rattle.console.specs.Script.{is_space, is_digit, is_number, decimal, decimal_after, ended, words, words_after}
use Rattle.console.specs.Places.{with_digit}
use Rattle.console.proofs.Words.{after_space, after_byte, digit_no_space}
use Rattle.console.proofs.Decimals.{Counted, decimal_more, digit_low, counted_digit, not_digits}
use Rattle.tick_lines.specs.Lines.{Tick, tick_of, line_tick, with_byte, with_bytes, tick_of_number, ended_tick}
use Rattle.tick_lines.specs.Inputs.{Said, said, line_ended, byte_said, bytes_said}
use Rattle.tick_lines.proofs.Inputs.{other_said}
use Rattle.tick_lines.specs.declared.line.Line.{Line}
use Rattle.tick_lines.specs.declared.line.Line.TheVariants as Li
use Rattle.tick_lines.specs.declared.line.Stop.TheVariants as St

-- a word that is no number, with or without words after it
no_number : (w : List ℕ) (ws : List (List ℕ)) → is_number w ≡ false → tick_of (w ∷ ws) ≡ Err St.Bad
unfolding tick_of
no_number w [] h = cond_no (Ok (Some (decimal w))) (Err St.Bad) h
no_number w (v ∷ ws) h = refl

-- a word of digits alone, whose value was read as n
word_tick : (a : ℕ) (v : List ℕ) (n : ℕ) → all is_digit (a ∷ v) ≡ true → Counted n [] (decimal (a ∷ v)) → tick_of ((a ∷ v) ∷ []) ≡ tick_of_number n
unfolding tick_of tick_of_number is_number decimal_after
word_tick a v n h (inl e) = rw (le-leb 1 (length (a ∷ v)) (omega arith), h, e) refl
word_tick a v n h (inr (k, l)) = rw (le-leb 1 (length (a ∷ v)) (omega arith), h, lt-leb (decimal (a ∷ v)) 4294967295 l, lt-leb n 4294967295 k) refl

-- once a line is bad it stays so
bad_bytes : (s : List ℕ) → ended_tick (with_bytes Li.Bad s) ≡ Err St.Bad
unfolding with_bytes with_byte ended_tick
bad_bytes [] = refl
bad_bytes (b ∷ s) = bad_bytes s

-- a word with a byte that is no digit
bad_word : (a : ℕ) (v s : List ℕ) → all is_digit (a ∷ v) ≡ false → tick_of (words_after (a ∷ v) s) ≡ Err St.Bad
unfolding words_after ended
bad_word a v [] h = no_number (a ∷ v) [] (not_digits (a ∷ v) h)
bad_word a v (b ∷ s) h = ⊎_elim
    (λ e. ap tick_of (after_space (a ∷ v) b s e) ∙ no_number (a ∷ v) (words_after [] s) (not_digits (a ∷ v) h))
    (λ e. ap tick_of (after_byte (a ∷ v) b s e) ∙ bad_word a (v ++ (b ∷ [])) s (all_more is_digit (a ∷ v) b ∙ rw h refl))
    (decided (is_space b))

-- a word after another
second_word : (w : List ℕ) (a : ℕ) (v s : List ℕ) → tick_of (w ∷ words_after (a ∷ v) s) ≡ Err St.Bad
unfolding words_after ended tick_of
second_word w a v [] = refl
second_word w a v (b ∷ s) = ⊎_elim
    (λ e. ap (λ (ws : List (List ℕ)). tick_of (w ∷ ws)) (after_space (a ∷ v) b s e))
    (λ e. ap (λ (ws : List (List ℕ)). tick_of (w ∷ ws)) (after_byte (a ∷ v) b s e) ∙ second_word w a (v ++ (b ∷ [])) s)
    (decided (is_space b))

-- after a word that has ended
ended_read : (w : List ℕ) (n : ℕ) (s : List ℕ) → tick_of (w ∷ []) ≡ tick_of_number n → ended_tick (with_bytes (Li.Ended n) s) ≡ tick_of (w ∷ words_after [] s)
unfolding with_bytes with_byte ended_tick words_after ended
ended_read w n [] h = sym h
ended_read w n (b ∷ s) h = go (is_space b) (ended_read w n s h)
  where
    go : (x : Bool) → ended_tick (with_bytes (Li.Ended n) s) ≡ tick_of (w ∷ words_after [] s) →
        ended_tick (with_bytes (cond x (Li.Ended n) Li.Bad) s) ≡ tick_of (w ∷ cond x (words_after [] s) (words_after (b ∷ []) s))
    go true r = r
    go false r = bad_bytes s ∙ sym (second_word w b [] s)

-- within a word of digits
digits_read : (a : ℕ) (v : List ℕ) (n : ℕ) (s : List ℕ) → all is_digit (a ∷ v) ≡ true → Counted n [] (decimal (a ∷ v)) → ended_tick (with_bytes (Li.Digits n) s) ≡ tick_of (words_after (a ∷ v) s)
unfolding with_bytes with_byte ended_tick words_after ended decimal
digits_read a v n [] h c = sym (word_tick a v n h c)
digits_read a v n (b ∷ s) h c = go (is_digit b) (is_space b) refl refl
    (λ e. digits_read a (v ++ (b ∷ [])) (with_digit n (b - 48)) s (all_more is_digit (a ∷ v) b ∙ both h e) (rw (decimal_more 0 (a ∷ v) b) (counted_digit n (decimal (a ∷ v)) (b - 48) c)))
  where
    go : (x y : Bool) → is_digit b ≡ x → is_space b ≡ y →
        (is_digit b ≡ true → ended_tick (with_bytes (Li.Digits (with_digit n (b - 48))) s) ≡ tick_of (words_after (a ∷ (v ++ (b ∷ []))) s)) →
        ended_tick (with_bytes (cond x (Li.Digits (with_digit n (b - 48))) (cond y (Li.Ended n) Li.Bad)) s) ≡ tick_of (cond y ((a ∷ v) ∷ words_after [] s) (words_after (a ∷ (v ++ (b ∷ []))) s))
    go true true e f r = clash f (digit_no_space b e)
    go true false e f r = r e
    go false true e f r = ended_read (a ∷ v) n s (word_tick a v n h c)
    go false false e f r = bad_bytes s ∙ sym (bad_word a (v ++ (b ∷ [])) s (all_more is_digit (a ∷ v) b ∙ rw (h, e) refl))

-- from the line's start
pub line_read : (s : List ℕ) → ended_tick (with_bytes Li.Blank s) ≡ line_tick s
unfolding with_bytes with_byte ended_tick words_after words ended line_tick tick_of all decimal decimal_after
line_read [] = refl
line_read (b ∷ s) = go (is_digit b) (is_space b) refl refl (line_read s)
  where
    go : (x y : Bool) → is_digit b ≡ x → is_space b ≡ y → ended_tick (with_bytes Li.Blank s) ≡ line_tick s →
        ended_tick (with_bytes (cond x (Li.Digits (with_digit 0 (b - 48))) (cond y Li.Blank Li.Bad)) s) ≡ tick_of (cond y (words_after [] s) (words_after (b ∷ []) s))
    go true true e f r = clash f (digit_no_space b e)
    go true false e f r = digits_read b [] (with_digit 0 (b - 48)) s (both e refl) (inl (digit_low 0 (b - 48) (omega arith)))
    go false true e f r = r
    go false false e f r = bad_bytes s ∙ sym (bad_word b [] s (rw e refl))

-- bytes without a line feed are a part of one line
said_line : (ts : List ℕ) (l : Line) (s : List ℕ) → elem 10 s ≡ false → bytes_said (said ts l) s ≡ said ts (with_bytes l s)
unfolding bytes_said with_bytes elem any
said_line ts l [] h = refl
said_line ts l (b ∷ s) h = ap (λ (a : Said). bytes_said a s) (other_said ts l b (eqb-false b 10 (neither_l (eqb b 10) _ h))) ∙ said_line ts (with_byte l b) s (neither_r (eqb b 10) _ h)

said_append : (a : Said) (s t : List ℕ) → bytes_said a (s ++ t) ≡ bytes_said (bytes_said a s) t
unfolding bytes_said
said_append a [] t = refl
said_append a (b ∷ s) t = said_append (byte_said a b) s t

-- a line of an input, with the line feed after it
pub line_said : (ts s rest : List ℕ) → elem 10 s ≡ false → bytes_said (said ts Li.Blank) (s ++ (10 ∷ rest)) ≡ bytes_said (line_ended ts (line_tick s)) rest
unfolding bytes_said byte_said
line_said ts s rest h =
    said_append (said ts Li.Blank) s (10 ∷ rest)
    ∙ ap (λ (a : Said). bytes_said a (10 ∷ rest)) (said_line ts Li.Blank s h)
    ∙ ap (λ (t : Tick). bytes_said (line_ended ts t) rest) (line_read s)

-- the last line, which may have none: it ends with the input
pub last_said : (ts s : List ℕ) → elem 10 s ≡ false → (l : Line) × (bytes_said (said ts Li.Blank) s ≡ said ts l) × (ended_tick l ≡ line_tick s)
last_said ts s h = (with_bytes Li.Blank s, said_line ts Li.Blank s h, line_read s)
