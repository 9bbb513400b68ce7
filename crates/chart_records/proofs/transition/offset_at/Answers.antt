use mathlib.Core.Path.{sym}
use lib.ListN.{get_or-eq_default}
use Rattle.chart_records.proofs.transition.offset_at.Goals as goal

pub returns-else-i-offsets : goal.returns-else-i-offsets
returns-else-i-offsets c = sym (get_or-eq_default c.args.offsets.now 0 c.if-i-offsets.false)
