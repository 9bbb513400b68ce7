use mathlib.Core.Path.{sym}
use lib.ListN.{get_or-eq_default}
use Rattle.chart_tree.proofs.table.marks_at.Goals as goal

pub returns-else-s-marks : goal.returns-else-s-marks
returns-else-s-marks c = sym (get_or-eq_default c.args.marks.now 0 c.if-s-marks.false)
