use mathlib.Core.Path.{ap, ◌∙◌}
use Rattle.console.specs.Script.{alone_line}
use Rattle.console.proofs.script.alone.Goals as goal

pub returns-in-None : goal.returns-in-None
unfolding alone_line
returns-in-None c = c.plain.ensures ∙ ap (alone_line _) c.in-None.ensures.means

pub returns-in-Some : goal.returns-in-Some
unfolding alone_line
returns-in-Some c = c.plain-in-Some.ensures ∙ ap (alone_line _) c.in-Some.ensures.means
