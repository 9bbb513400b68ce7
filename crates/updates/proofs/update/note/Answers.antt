use mathlib.Core.List.{[], ◌∷◌, ◌++◌}
use Rattle.updates.proofs.Updates.{noted_two}
use Rattle.updates.proofs.update.note.Goals as goal

pub returns-in-Assignment : goal.returns-in-Assignment
returns-in-Assignment c vs n = rw c.in-Assignment.is (c.note_variable.ensures vs n)

pub returns-in-Advance : goal.returns-in-Advance
returns-in-Advance c vs n =
    rw c.in-Advance.is
    (noted_two vs c.in-Advance.a.steps c.in-Advance.a.remainder (c.note_variable-in-Advance.ensures (vs ++ (c.in-Advance.a.steps ∷ [])) (c.note_variable-first.ensures vs n)))
