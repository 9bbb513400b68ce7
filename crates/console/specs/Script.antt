-- Scripts of calls: what a line means. A line is words, and the first word names the call: start, step 3 7, wait 5,
-- longest.
use Rattle.std.specs.Prelude.{Bool, true, false, cond, ◌&&◌, ◌||◌, List, [], ◌∷◌, ◌++◌, map, ℕ, ◌+◌, ◌*◌, ◌-◌, min, leb, eqb, length, take, replicate, Option, Some, None}
use Rattle.lists.specs.Lists.{all, position, padded}
use Rattle.console.specs.declared.script.Call.{Call}
use Rattle.console.specs.declared.script.Call.TheVariants as Ca
use Rattle.console.specs.declared.script.Line.{Line}

-- what stands before a comment, which begins with #
unfoldable pub before_comment : List ℕ → List ℕ
before_comment s = take (position (λ b. eqb b 35) s) s

-- a space, a tab or a carriage return
unfoldable pub is_space : ℕ → Bool
is_space b = (eqb b 32 || eqb b 9) || eqb b 13

-- a word at its end, if a byte of it was seen
unfoldable pub ended : List ℕ → List (List ℕ)
ended [] = []
ended (b ∷ w) = (b ∷ w) ∷ []

-- the words of what is left of a line, after the first bytes of a word
unfoldable pub words_after : List ℕ → List ℕ → List (List ℕ)
words_after w [] = ended w
words_after w (b ∷ s) = cond (is_space b) (ended w ++ words_after [] s) (words_after (w ++ (b ∷ [])) s)

-- the words of a line: runs of bytes that are no spaces
unfoldable pub words : List ℕ → List (List ℕ)
words s = words_after [] s

-- two words are the same
unfoldable pub same_word : List ℕ → List ℕ → Bool
same_word [] [] = true
same_word [] (b ∷ t) = false
same_word (a ∷ s) [] = false
same_word (a ∷ s) (b ∷ t) = eqb a b && same_word s t

abbrev pub is_digit : ℕ → Bool
is_digit b = leb 48 b && leb b 57

-- the number that digits write, after others that write n
unfoldable pub decimal_after : ℕ → List ℕ → ℕ
decimal_after n [] = n
decimal_after n (b ∷ w) = decimal_after (n * 10 + (b - 48)) w

-- the number that digits write
unfoldable pub decimal : List ℕ → ℕ
decimal w = decimal_after 0 w

-- decimal digits, at least one, that write a number of 32 bits
unfoldable pub is_number : List ℕ → Bool
is_number w = leb 1 (length w) && (all is_digit w && leb (decimal w) 4294967295)

-- the number that a word is
unfoldable pub number_of : List ℕ → Option ℕ
number_of w = cond (is_number w) (Some (decimal w)) None

-- a line with a call and no numbers
unfoldable pub plain_line : Call → Line
plain_line c = record { call = c; list = replicate 17 0; count = 0 }

-- a number of a list: one past sixteen bits is as unknown as the largest of sixteen bits
abbrev pub shortened : ℕ → ℕ
shortened n = min n 65535

-- a step by these numbers. At most seventeen are kept: no machine takes more than sixteen
unfoldable pub listed : List ℕ → Line
listed ns = record { call = Ca.Step; list = padded 17 0 (map shortened (take 17 ns)); count = min (length ns) 17 }

-- the words after `step`: each has to be a number
unfoldable pub step_line : List (List ℕ) → Line
step_line ws = cond (all is_number ws) (listed (map decimal ws)) (plain_line Ca.Number)

-- the words after `wait`: one number
unfoldable pub wait_line : List (List ℕ) → Line
wait_line [] = plain_line Ca.Number
wait_line (w ∷ []) = plain_line (cond (is_number w) (Ca.Wait (decimal w)) Ca.Number)
wait_line (w ∷ v ∷ ws) = plain_line Ca.Number

-- the words after `start` and `longest`: none
unfoldable pub alone_line : Call → List (List ℕ) → Line
alone_line c [] = plain_line c
alone_line c (w ∷ ws) = plain_line Ca.Unknown

-- the bytes of step, wait, start and longest
abbrev pub step_word : List ℕ
step_word = 115 ∷ 116 ∷ 101 ∷ 112 ∷ []

abbrev pub wait_word : List ℕ
wait_word = 119 ∷ 97 ∷ 105 ∷ 116 ∷ []

abbrev pub start_word : List ℕ
start_word = 115 ∷ 116 ∷ 97 ∷ 114 ∷ 116 ∷ []

abbrev pub longest_word : List ℕ
longest_word = 108 ∷ 111 ∷ 110 ∷ 103 ∷ 101 ∷ 115 ∷ 116 ∷ []

-- the call of a line's words
unfoldable pub call_line : List (List ℕ) → Line
call_line [] = plain_line Ca.Nothing
call_line (w ∷ ws) =
    cond (same_word w step_word) (step_line ws)
    (cond (same_word w wait_word) (wait_line ws)
    (cond (same_word w start_word) (alone_line Ca.Start ws)
    (cond (same_word w longest_word) (alone_line Ca.Longest ws)
    (plain_line Ca.Unknown))))

-- what a line says, or that it says nothing, or what is wrong with it
unfoldable pub line_of : List ℕ → Line
line_of s = call_line (words (before_comment s))

-- the call is one for a machine
abbrev pub is_call : Call → Bool
is_call Ca.Nothing = false
is_call Ca.Start = true
is_call Ca.Step = true
is_call (Ca.Wait ticks) = true
is_call Ca.Longest = true
is_call Ca.Unknown = false
is_call Ca.Number = false

-- the call moves a machine: the longest wait is asked for, and leaves it as it is
abbrev pub moves : Call → Bool
moves Ca.Nothing = false
moves Ca.Start = true
moves Ca.Step = true
moves (Ca.Wait ticks) = true
moves Ca.Longest = false
moves Ca.Unknown = false
moves Ca.Number = false

-- the numbers of a line's step, of which there are at most seventeen
abbrev pub numbers_of : Line → List ℕ
numbers_of l = take (min l.count 17) l.list
