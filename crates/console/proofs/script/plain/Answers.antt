use mathlib.Core.Path.{refl}
use Rattle.console.specs.Script.{plain_line}
use Rattle.console.proofs.script.plain.Goals as goal

pub returns : goal.returns
unfolding plain_line
returns c = refl
