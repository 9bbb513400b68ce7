use Rattle.chart_tree.proofs.Tables.{adding_empty}
use mathlib.Core.Path.{◌∙◌}
use Rattle.chart_tree.proofs.entry.start_active.Goals as goal

pub returns : goal.returns
returns c = λ d T r5 r8. c.entered.ensures d T r5 r8 ∙ adding_empty 48 d _
