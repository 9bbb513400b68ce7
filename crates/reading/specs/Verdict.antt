-- What the code says of an answer: its result, or its refusal by name. The definitions have the numbers of the refusals.
use Rattle.std.specs.Prelude.{ℕ, List, [], ◌∷◌, Option, Some, None, Result, Ok, Err}
use Rattle.reading.specs.Answer.{Answer, done, refused}
use Rattle.reading.specs.declared.refusal.Refusal.{Refusal}
use Rattle.reading.specs.declared.refusal.Refusal.TheVariants as Rf

-- the number of a refusal in the table
abbrev pub number : Refusal → ℕ
number Rf.ChartHeader = 1
number Rf.ChartCount = 2
number Rf.ChartLength = 3
number Rf.ChartField = 4
number Rf.Parent = 5
number Rf.ManySequential = 6
number Rf.NoSequential = 7
number Rf.EntryMarks = 8
number Rf.ExitMarks = 9
number Rf.Siblings = 10
number Rf.Exit = 11
number Rf.Entry = 12
number Rf.Updates = 13
number Rf.Channel = 14
number Rf.ManyEdges = 15
number Rf.ShortBuffer = 16
number Rf.ChartConfiguration = 17
number Rf.List = 18
number Rf.Inactive = 19
number Rf.NotAllowed = 20
number Rf.Bound = 21
number Rf.Ticks = 22
number Rf.NetworkHeader = 24
number Rf.NetworkField = 25
number Rf.NetworkConfiguration = 26
number Rf.Urgent = 27
number Rf.OutOfRange = 28
number Rf.Window = 29

-- the refusals by their numbers; none has 0 or 23
abbrev pub refusals : List (Option Refusal)
refusals =
    None ∷ Some Rf.ChartHeader ∷ Some Rf.ChartCount ∷ Some Rf.ChartLength ∷ Some Rf.ChartField ∷ Some Rf.Parent ∷
    Some Rf.ManySequential ∷ Some Rf.NoSequential ∷ Some Rf.EntryMarks ∷ Some Rf.ExitMarks ∷ Some Rf.Siblings ∷
    Some Rf.Exit ∷ Some Rf.Entry ∷ Some Rf.Updates ∷ Some Rf.Channel ∷ Some Rf.ManyEdges ∷ Some Rf.ShortBuffer ∷
    Some Rf.ChartConfiguration ∷ Some Rf.List ∷ Some Rf.Inactive ∷ Some Rf.NotAllowed ∷ Some Rf.Bound ∷
    Some Rf.Ticks ∷ None ∷ Some Rf.NetworkHeader ∷ Some Rf.NetworkField ∷ Some Rf.NetworkConfiguration ∷
    Some Rf.Urgent ∷ Some Rf.OutOfRange ∷ Some Rf.Window ∷ []

-- the answer that a result of the code is
abbrev pub answer_of : {A : Type 0} → Result A Refusal → Answer A
answer_of (Ok a) = done a
answer_of (Err r) = refused (number r)

-- an answer without its value: whether there is one, or its refusal
abbrev pub verdict_of : {A : Type 0} → Answer A → Answer (Unit {0})
verdict_of (done x) = done tt
verdict_of (refused k) = refused k

-- the number of a refusal, and 0 where there is none
abbrev pub verdict_number : {A : Type 0} → Answer A → ℕ
verdict_number (done x) = 0
verdict_number (refused k) = k

-- what a call leaves: its answer, and what was there where it is refused
abbrev pub or_kept : {A : Type 0} → A → Answer A → A
or_kept old (done x) = x
or_kept old (refused k) = old
