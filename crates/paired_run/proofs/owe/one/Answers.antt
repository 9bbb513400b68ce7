use Rattle.std.proofs.Common.{arith, eq-eqb, ne_eqb}
use Rattle.paired_run.proofs.owe.one.Goals as goal

pub returns-then-name-eq255 : goal.returns-then-name-eq255
returns-then-name-eq255 c = record { means = rw (eq-eqb _ 255 c.if-name-eq255.true); few = omega arith }

pub returns-else-name-eq255 : goal.returns-else-name-eq255
returns-else-name-eq255 c = record { means = rw (ne_eqb _ 255 c.if-name-eq255.false); few = omega arith }
