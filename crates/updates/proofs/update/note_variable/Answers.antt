use native.Mathlib.Omega.{arith}
use mathlib.Core.Path.{refl}
use Rattle.updates.proofs.Updates.{noted_more}
use Rattle.updates.proofs.update.note_variable.Goals as goal

pub returns : goal.returns
returns c vs n = noted_more vs _ _ n (omega arith) refl refl
