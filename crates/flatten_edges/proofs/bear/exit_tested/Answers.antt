use mathlib.Core.Path.{sym}
use Rattle.flattening.proofs.Edges.{tested_some, tested_none}
use Rattle.flatten_edges.proofs.bear.exit_tested.Goals as goal

pub returns-then-set-eq0 : goal.returns-then-set-eq0
returns-then-set-eq0 c = sym (tested_none _ _ c.if-set-eq0.true)

pub returns-else-set-eq0 : goal.returns-else-set-eq0
returns-else-set-eq0 c = sym (tested_some _ _ c.if-set-eq0.false)
