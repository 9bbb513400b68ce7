use mathlib.Core.Path.{◌∙◌}
use Rattle.library.proofs.Lending.{no_flags_passed, no_flags_refused}
use Rattle.library.proofs.flags.no_flags.Goals as goal

pub returns-in-Ok : goal.returns-in-Ok
returns-in-Ok c = c.number.ensures ∙ no_flags_passed _ c.in-Ok.ensures

pub returns-in-Err : goal.returns-in-Err
returns-in-Err c = c.number-in-Err.ensures ∙ no_flags_refused _ c.in-Err.ensures
