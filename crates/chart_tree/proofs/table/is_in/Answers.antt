use lib.ListN.{get_or-eq_default}
use mathlib.Core.Bool.{false}
use mathlib.Core.Path.{sym}
use Rattle.chart_tree.proofs.table.is_in.Goals as goal

pub returns-else-s-set : goal.returns-else-s-set
returns-else-s-set c = sym (get_or-eq_default c.args.set.now false c.if-s-set.false)
