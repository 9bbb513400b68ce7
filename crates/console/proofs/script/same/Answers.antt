use mathlib.Core.Path.{◌∙◌}
use Rattle.console.proofs.Words.{same_is}
use Rattle.console.proofs.script.same.Goals as goal

pub returns : goal.returns
returns c = c.eq.ensures ∙ same_is c.args.a.now c.args.b.now
