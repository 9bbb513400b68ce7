use Rattle.library.proofs.Outcomes.{flatten_passed, flatten_refused}
use mathlib.Core.Path.{◌∙◌}
use Rattle.library.proofs.flatten.figrummy_flatten.Goals as goal

pub returns-in-Ok : goal.returns-in-Ok
returns-in-Ok c =
    let a = flatten_passed _ _ c.in-Ok.ensures.answer in
    record { number = a.0; size = a.1; bytes = c.flatten.ensures.bytes }

pub returns-in-Err : goal.returns-in-Err
returns-in-Err c =
    let a = flatten_refused _ _ c.in-Err.ensures.answer in
    record { number = c.number.ensures ∙ a.0; size = a.1; bytes = c.flatten.ensures.bytes }
