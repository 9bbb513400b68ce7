use Rattle.tick_lines.proofs.Lines.{number_tick, number_bad}
use Rattle.tick_lines.proofs.line.tick_of.Goals as goal

pub returns-then-n-gt4294967295 : goal.returns-then-n-gt4294967295
returns-then-n-gt4294967295 c = number_bad _ c.if-n-gt4294967295.true

pub returns-else-n-gt4294967295 : goal.returns-else-n-gt4294967295
returns-else-n-gt4294967295 c = number_tick _ c.if-n-gt4294967295.false
