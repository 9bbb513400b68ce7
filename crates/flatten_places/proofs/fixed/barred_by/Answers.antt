use Rattle.flatten_places.proofs.Fixing.{bars_basic, bars_sequential, bars_parallel}
use Rattle.flatten_places.proofs.fixed.barred_by.Goals as goal

pub returns-then-kind-eq0 : goal.returns-then-kind-eq0
returns-then-kind-eq0 c = λ e h. bars_basic _ _ e c.if-kind-eq0.true h

pub returns-then-kind-eq1 : goal.returns-then-kind-eq1
returns-then-kind-eq1 c = λ e h. bars_sequential _ _ e c.if-kind-eq1.true h

pub returns-else-kind-eq1 : goal.returns-else-kind-eq1
returns-else-kind-eq1 c = λ e h. bars_parallel _ _ e c.if-kind-eq0.false c.if-kind-eq1.false
