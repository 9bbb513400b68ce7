-- Worked lines of a script.
use mathlib.Core.Path.{◌≡◌, refl}
use mathlib.Core.List.{[], ◌∷◌}
use Rattle.lists.specs.Lists.{all, position}
use Rattle.console.specs.Script.{before_comment, is_space, ended, words_after, words, same_word, decimal_after, decimal, is_number, plain_line, listed, step_line, wait_line, alone_line, call_line, line_of}
use Rattle.console.specs.declared.script.Call.TheVariants as Ca

-- `step 3  70 # 5`
two_numbers : line_of (115 ∷ 116 ∷ 101 ∷ 112 ∷ 32 ∷ 51 ∷ 32 ∷ 32 ∷ 55 ∷ 48 ∷ 32 ∷ 35 ∷ 32 ∷ 53 ∷ []) ≡ listed (3 ∷ 70 ∷ [])
unfolding before_comment position is_space ended words_after words same_word all decimal_after decimal is_number step_line call_line line_of
two_numbers = refl

-- `step 3x`
no_number : line_of (115 ∷ 116 ∷ 101 ∷ 112 ∷ 32 ∷ 51 ∷ 120 ∷ []) ≡ plain_line Ca.Number
unfolding before_comment position is_space ended words_after words same_word all decimal_after decimal is_number step_line call_line line_of
no_number = refl

-- a tab, `wait 4294967295` and a carriage return
most_ticks : line_of (9 ∷ 119 ∷ 97 ∷ 105 ∷ 116 ∷ 32 ∷ 52 ∷ 50 ∷ 57 ∷ 52 ∷ 57 ∷ 54 ∷ 55 ∷ 50 ∷ 57 ∷ 53 ∷ 13 ∷ []) ≡ plain_line (Ca.Wait 4294967295)
unfolding before_comment position is_space ended words_after words same_word all decimal_after decimal is_number wait_line call_line line_of
most_ticks = refl

-- `wait 4294967296`
too_large : line_of (119 ∷ 97 ∷ 105 ∷ 116 ∷ 32 ∷ 52 ∷ 50 ∷ 57 ∷ 52 ∷ 57 ∷ 54 ∷ 55 ∷ 50 ∷ 57 ∷ 54 ∷ []) ≡ plain_line Ca.Number
unfolding before_comment position is_space ended words_after words same_word all decimal_after decimal is_number wait_line call_line line_of
too_large = refl

-- `start 1`
start_more : line_of (115 ∷ 116 ∷ 97 ∷ 114 ∷ 116 ∷ 32 ∷ 49 ∷ []) ≡ plain_line Ca.Unknown
unfolding before_comment position is_space ended words_after words same_word alone_line call_line line_of
start_more = refl

-- `longest # 5`
longest_alone : line_of (108 ∷ 111 ∷ 110 ∷ 103 ∷ 101 ∷ 115 ∷ 116 ∷ 32 ∷ 35 ∷ 32 ∷ 53 ∷ []) ≡ plain_line Ca.Longest
unfolding before_comment position is_space ended words_after words same_word alone_line call_line line_of
longest_alone = refl

-- `longest 5`
longest_more : line_of (108 ∷ 111 ∷ 110 ∷ 103 ∷ 101 ∷ 115 ∷ 116 ∷ 32 ∷ 53 ∷ []) ≡ plain_line Ca.Unknown
unfolding before_comment position is_space ended words_after words same_word alone_line call_line line_of
longest_more = refl
